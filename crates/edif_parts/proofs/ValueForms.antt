-- What the forms of values mean.
use Rattle.std.proofs.Common.{◌≡◌, ℕ, ℤ, List, [], ◌∷◌, map, refl, ap, subst, inl, inr, Bool, true, false, Some}
use Rattle.std.specs.Prelude.{FitsSigned, IsTrue, slice_get, ◌||◌}
use Rattle.std.specs.Int.{w32}
use Rattle.std.proofs.lemmas.Bool.{or_cases}
use Rattle.edif_spelling_spec.specs.Tree.{Bare, Placed, Integer', bare}
use Rattle.netlist_schema.specs.declared.property.Num.{Num}
use Rattle.netlist_schema.specs.declared.property.Num.TheVariants as numbers
use Rattle.netlist_schema.specs.declared.property.Value.TheVariants as values
use Rattle.edif_spec.specs.Keyword.{Choice, AnInteger, AForm}
use Rattle.edif_spec.specs.Keyword as table
use Rattle.edif_spec.specs.Means.{MeansBoolean, MeansNumber, MeansValue}
use Rattle.edif_spec.specs.Rows.{has_keyword, is_choice, is_one_of, IsFormOf}
use Rattle.edif_spec.specs.Faults.{arguments, followers}
use Rattle.edif_spec.specs.Stands.{NumberFault}
use Rattle.edif_spec.specs.Stands as stands
use Rattle.edif_spec.specs.declared.keyword.Keyword.TheVariants as keywords
use Rattle.edif_spec.specs.declared.fault.Kind.TheVariants.{BadForm}
use Rattle.edif_spec.specs.declared.fault.MeaningFault.TheVariants.{At}
use Rattle.edif_spec.proofs.KnownForms.{only}
use Rattle.edif_spec.proofs.KnownRows.{follow_none}
use Rattle.edif_grammar.specs.Forms.{ArePartsOf}
use Rattle.edif_parts.specs.Values.{value_forms}
use Rattle.edif_grammar.specs.declared.lent.Form.{Form}
use Rattle.edif_grammar.proofs.FormLemmas.{fit0}
use Rattle.edif_parts.proofs.PartLemmas.{OneNode, TwoNodes, one_node, two_nodes}

-- the one that is left
pub not_first : (a b : Bool) → a ≡ false → (a || b) ≡ true → b ≡ true
not_first true b n h = absurd (cc n)
not_first false b n h = h

-- truth values
abbrev pub truths : List Choice
truths = AForm keywords.True ∷ AForm keywords.False ∷ []

pub boolean_node : (t : Placed) (p : Form) → ArePartsOf keywords.Boolean t p → OneNode keywords.Boolean truths t p
boolean_node t p a = one_node keywords.Boolean truths [] t p refl refl refl a

pub is_false : (t : Bare) → is_one_of truths t ≡ true → has_keyword keywords.True t ≡ false → has_keyword keywords.False t ≡ true
is_false t h n = only (has_keyword keywords.False t) (not_first (has_keyword keywords.True t) (has_keyword keywords.False t || false) n h)

pub true_means : (u : Placed) (p : Form) → ArePartsOf keywords.True u p → MeansBoolean (bare u) true
true_means u p a = follow_none keywords.True [] (bare u) [] (map bare (followers keywords.True u)) refl (fit0 keywords.True [] u refl refl refl a.fits).form

pub false_means : (u : Placed) (p : Form) → ArePartsOf keywords.False u p → MeansBoolean (bare u) false
false_means u p a = follow_none keywords.False [] (bare u) [] (map bare (followers keywords.False u)) refl (fit0 keywords.False [] u refl refl refl a.fits).form

pub boolean_means : (t u : Placed) (b : Bool) → IsFormOf keywords.Boolean (bare t) (bare u ∷ []) (map bare (followers keywords.Boolean t)) → MeansBoolean (bare u) b → MeansValue (bare t) (values.Boolean b)
boolean_means t u b f h = (bare u, follow_none keywords.Boolean (truths ∷ []) (bare t) (bare u ∷ []) (map bare (followers keywords.Boolean t)) refl f, h)

-- integers
pub integer_node : (t : Placed) (p : Form) → ArePartsOf keywords.Integer t p → OneNode keywords.Integer table.integer t p
integer_node t p a = one_node keywords.Integer table.integer [] t p refl refl refl a

pub integer_means : (t u : Placed) (q : ℕ) (z : ℤ) → IsFormOf keywords.Integer (bare t) (bare u ∷ []) (map bare (followers keywords.Integer t)) → u ≡ Integer' q z → MeansValue (bare t) (values.Integer z)
integer_means t u q z f e =
    let P : Placed → Type 0 = λ v. IsFormOf keywords.Integer (bare t) (bare v ∷ []) [] in
    subst P e (follow_none keywords.Integer (table.integer ∷ []) (bare t) (bare u ∷ []) (map bare (followers keywords.Integer t)) refl f)

-- numbers
abbrev pub numbers_of : List Choice
numbers_of = AnInteger ∷ AForm keywords.E ∷ []

pub number_node : (t : Placed) (p : Form) → ArePartsOf keywords.Number t p → OneNode keywords.Number numbers_of t p
number_node t p a = one_node keywords.Number numbers_of [] t p refl refl refl a

pub is_integer : (t : Bare) → is_one_of numbers_of t ≡ true → has_keyword keywords.E t ≡ false → IsTrue (is_choice AnInteger t)
is_integer t h n = elim (or_cases (is_choice AnInteger t) (has_keyword keywords.E t || false) h) [
  | inl e ↦ e
  | inr e ↦ (let y : has_keyword keywords.E t ≡ true = only (has_keyword keywords.E t) e in absurd (cc))
]

pub number_means : (t u : Placed) (x : Num) → IsFormOf keywords.Number (bare t) (bare u ∷ []) (map bare (followers keywords.Number t)) → MeansNumber (bare u) x → MeansValue (bare t) (values.Number x)
number_means t u x f h = (bare u, follow_none keywords.Number (numbers_of ∷ []) (bare t) (bare u ∷ []) (map bare (followers keywords.Number t)) refl f, h)

pub plain_number : (u : Placed) (q : ℕ) (z : ℤ) → u ≡ Integer' q z → MeansNumber (bare u) (numbers.Int z)
plain_number u q z e = ap bare e

pub scaled_nodes : (t : Placed) (p : Form) → ArePartsOf keywords.E t p → TwoNodes keywords.E table.integer table.integer t p
scaled_nodes t p a = two_nodes keywords.E table.integer table.integer [] t p refl refl refl a

pub scaled_means : (t u v : Placed) (i j : ℕ) (m x : ℤ) → IsFormOf keywords.E (bare t) (bare u ∷ bare v ∷ []) (map bare (followers keywords.E t)) → u ≡ Integer' i m → v ≡ Integer' j x → FitsSigned w32 x → MeansNumber (bare t) (numbers.Scaled m x)
scaled_means t u v i j m x g a b h =
    let P : Placed → Placed → Type 0 = λ x y. IsFormOf keywords.E (bare t) (bare x ∷ bare y ∷ []) [] in
    let f : P u v = follow_none keywords.E (table.integer ∷ table.integer ∷ []) (bare t) (bare u ∷ bare v ∷ []) (map bare (followers keywords.E t)) refl g in
    (subst (λ y. P (Integer' i m) y) b (subst (λ x. P x v) a f), h)

pub exponent_fault : (t v : Placed) (q : ℕ) (z : ℤ) → has_keyword keywords.E (bare t) ≡ true → slice_get (arguments t) 1 ≡ Some v → v ≡ Integer' q z → (FitsSigned w32 z → ⊥) → NumberFault t (At BadForm q)
exponent_fault t v q z k e b h = stands.scaled_exponent k (v, e, (z, q, b, h, refl))

-- a value of no other kind is a string
pub is_string : (t : Bare) → is_one_of value_forms t ≡ true → has_keyword keywords.Boolean t ≡ false → has_keyword keywords.Integer t ≡ false → has_keyword keywords.Number t ≡ false → has_keyword keywords.String t ≡ true
is_string t h a b d =
    let b0 = has_keyword keywords.Boolean t in let b1 = has_keyword keywords.Integer t in let b2 = has_keyword keywords.Number t in let b3 = has_keyword keywords.String t in
    only b3 (not_first b2 (b3 || false) d (not_first b1 (b2 || (b3 || false)) b (not_first b0 (b1 || (b2 || (b3 || false))) a h)))
