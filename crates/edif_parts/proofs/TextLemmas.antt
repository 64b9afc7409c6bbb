-- The text of a form of one string, among followers of which one at most has its keyword.
use Rattle.std.proofs.Common.{◌≡◌, ℕ, ◌≤◌, List, [], ◌∷◌, ◌++◌, length, map, refl, sym, ap, ◌∙◌, subst, inl, inr, Option, None, Some, arith}
use Rattle.edif_spelling_spec.specs.Tree.{Bare, Placed, String', bare}
use Rattle.edif_spec.specs.Keyword.{row, Takes}
use Rattle.edif_spec.specs.Keyword as table
use Rattle.edif_spec.specs.Rows.{has_keyword, those, IsFormOf, Perhaps}
use Rattle.edif_spec.specs.Means.{MeansText}
use Rattle.edif_spec.specs.Faults.{those_of, token_kind, followers}
use Rattle.edif_spec.specs.declared.keyword.Keyword.{Keyword}
use Rattle.edif_spec.specs.declared.fault.Kind.TheVariants.{BadForm}
use Rattle.edif_spec.proofs.FaultForms.{filter_bare}
use Rattle.edif_spec.proofs.KnownRows.{follow_none}
use Rattle.edif_tree.specs.Nodes.{place_of}
use Rattle.edif_grammar.specs.Forms.{ArePartsOf}
use Rattle.edif_parts.specs.Texts.{IsTextForm}
use Rattle.edif_grammar.specs.declared.lent.Form.{Form}
use Rattle.edif_parts.proofs.PartLemmas.{OneNode, one_node}

-- the row of such a form
pub text_row : (k : Keyword) → IsTextForm k → row k ≡ Takes (table.string ∷ []) []
text_row k (inl e) = ap row e
text_row k (inr (inl e)) = ap row e
text_row k (inr (inr e)) = ap row e

pub text_kind : (k : Keyword) → IsTextForm k → token_kind k ≡ BadForm
text_kind k (inl e) = ap token_kind e
text_kind k (inr (inl e)) = ap token_kind e
text_kind k (inr (inr e)) = ap token_kind e

-- its string
pub text_node : (k : Keyword) (t : Placed) (p : Form) → IsTextForm k → ArePartsOf k t p → OneNode k table.string t p
text_node k t p h a = one_node k table.string [] t p (text_row k h) (text_kind k h) refl a

pub text_means : (k : Keyword) (t u : Placed) (s : List ℕ) → IsTextForm k → IsFormOf k (bare t) (bare u ∷ []) (map bare (followers k t)) → u ≡ String' (place_of u) s → MeansText k (bare t) s
text_means k t u s h f e =
    let P : Placed → Type 0 = λ v. IsFormOf k (bare t) (bare v ∷ []) [] in
    subst P e (follow_none k (table.string ∷ []) (bare t) (bare u ∷ []) (map bare (followers k t)) (text_row k h) f)

-- none so far
pub none_among : {A : Type 0} (M : Bare → A → Type 0) (k : Keyword) (ts : List Placed) → those_of k ts ≡ [] → Perhaps M (those k (map bare ts)) None
none_among {A} M k ts e =
    let n : Option A = None in
    let P : List Bare → Type 0 = λ v. Perhaps M v n in
    let w : [] ≡ those k (map bare ts) = ap (map bare) (sym e) ∙ filter_bare (has_keyword k) ts in
    subst P w tt

-- the one
no_more : (xs : List Placed) (t : Placed) → length (t ∷ xs) ≤ 1 → xs ≡ []
no_more [] t l = refl
no_more (u ∷ xs) t l = absurd (omega arith)

pub one_among : (k : Keyword) (ts before rest : List Placed) (t : Placed) → those_of k ts ≡ those_of k before ++ t ∷ those_of k rest → those_of k before ≡ [] → length (those_of k ts) ≤ 1 → those_of k ts ≡ t ∷ []
one_among k ts before rest t e n l =
    let w : those_of k ts ≡ t ∷ those_of k rest = e ∙ ap (λ v. v ++ t ∷ those_of k rest) n in
    w ∙ ap (λ v. t ∷ v) (no_more (those_of k rest) t (let P : List Placed → Type 0 = λ v. length v ≤ 1 in subst P w l))

pub perhaps_one : {A : Type 0} (M : Bare → A → Type 0) (k : Keyword) (ts : List Placed) (t : Placed) (x : A) → those_of k ts ≡ t ∷ [] → M (bare t) x → Perhaps M (those k (map bare ts)) (Some x)
perhaps_one {A} M k ts t x e m =
    let P : List Bare → Type 0 = λ v. Perhaps M v (Some x) in
    let w : bare t ∷ [] ≡ those k (map bare ts) = ap (map bare) (sym e) ∙ filter_bare (has_keyword k) ts in
    subst P w m
