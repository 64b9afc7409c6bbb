-- The fixed arguments of a form that fits, at the nodes that are lent of it.
use Rattle.std.proofs.Common.{◌≡◌, ℕ, List, [], ◌∷◌, length, map, refl, sym, ap, ◌∙◌, subst, true, Some}
use Rattle.std.specs.Prelude.{slice_get}
use Rattle.edif_spelling_spec.specs.Tree.{Placed, bare}
use Rattle.edif_spec.specs.Keyword.{row, Takes, Choice, Follower}
use Rattle.edif_spec.specs.Rows.{is_one_of, IsFormOf}
use Rattle.edif_spec.specs.Faults.{arguments, followers, token_kind}
use Rattle.edif_spec.specs.declared.keyword.Keyword.{Keyword}
use Rattle.edif_spec.specs.declared.fault.Kind.TheVariants.{BadForm}
use Rattle.edif_tree.specs.Handles.{all}
use Rattle.edif_grammar.specs.Forms.{ArePartsOf}
use Rattle.edif_grammar.specs.declared.lent.Form.{Form}
use Rattle.edif_grammar.proofs.FormLemmas.{Fixed2, are_plain, fit1, fit2}

-- an argument in its place, which is one of these choices
pub record Argument (i : ℕ) (c : List Choice) (t u : Placed) : Type 0 where
  pub at : slice_get (arguments t) i ≡ Some u
  pub is : is_one_of c (bare u) ≡ true

-- the one fixed argument
pub record OneNode (k : Keyword) (c : List Choice) (t : Placed) (p : Form) : Type 0 where
  pub count : length (all p.fixed) ≡ 1
  pub a : (u : Placed) → slice_get (all p.fixed) 0 ≡ Some u → Argument 0 c t u
  pub form : (u : Placed) → slice_get (all p.fixed) 0 ≡ Some u → IsFormOf k (bare t) (bare u ∷ []) (map bare (followers k t))

-- what stands at one place of equal lists
pub same_at : (xs ys : List Placed) (i : ℕ) (x u : Placed) → xs ≡ ys → slice_get ys i ≡ Some x → slice_get xs i ≡ Some u → x ≡ u
same_at xs ys i x u e g h = let w : Some x ≡ Some u = sym (ap (λ v. slice_get v i) e ∙ g) ∙ h in cc w

pub one_node : (k : Keyword) (c : List Choice) (fs : List Follower) (t : Placed) (p : Form) → row k ≡ Takes (c ∷ []) fs → token_kind k ≡ BadForm → are_plain fs ≡ true → ArePartsOf k t p → OneNode k c t p
one_node k c fs t p r b q a =
    let x = fit1 k c fs t r b q a.fits in
    let e : all p.fixed ≡ x.a ∷ [] = a.fixed ∙ x.fixed in
    let F : Placed → Type 0 = λ v. IsFormOf k (bare t) (bare v ∷ []) (map bare (followers k t)) in
    record {
      count = ap length e;
      a = λ u h. subst (λ v. Argument 0 c t v) (same_at (all p.fixed) (x.a ∷ []) 0 x.a u e refl h) (record { at = x.at_a; is = x.is_a });
      form = λ u h. subst F (same_at (all p.fixed) (x.a ∷ []) 0 x.a u e refl h) x.form;
    }

-- the two fixed arguments
pub record TwoNodes (k : Keyword) (c d : List Choice) (t : Placed) (p : Form) : Type 0 where
  pub count : length (all p.fixed) ≡ 2
  pub a : (u : Placed) → slice_get (all p.fixed) 0 ≡ Some u → Argument 0 c t u
  pub b : (u : Placed) → slice_get (all p.fixed) 1 ≡ Some u → Argument 1 d t u
  pub form : (u v : Placed) → slice_get (all p.fixed) 0 ≡ Some u → slice_get (all p.fixed) 1 ≡ Some v → IsFormOf k (bare t) (bare u ∷ bare v ∷ []) (map bare (followers k t))

pub two_of : (k : Keyword) (c d : List Choice) (t : Placed) (p : Form) (x : Fixed2 k c d t) → all p.fixed ≡ x.a ∷ x.b ∷ [] → TwoNodes k c d t p
two_of k c d t p x e =
    let F : Placed → Placed → Type 0 = λ v w. IsFormOf k (bare t) (bare v ∷ bare w ∷ []) (map bare (followers k t)) in
    record {
      count = ap length e;
      a = λ u h. subst (λ v. Argument 0 c t v) (same_at (all p.fixed) (x.a ∷ x.b ∷ []) 0 x.a u e refl h) (record { at = x.at_a; is = x.is_a });
      b = λ u h. subst (λ v. Argument 1 d t v) (same_at (all p.fixed) (x.a ∷ x.b ∷ []) 1 x.b u e refl h) (record { at = x.at_b; is = x.is_b });
      form = λ u v h g. subst (λ y. F u y) (same_at (all p.fixed) (x.a ∷ x.b ∷ []) 1 x.b v e refl g) (subst (λ y. F y x.b) (same_at (all p.fixed) (x.a ∷ x.b ∷ []) 0 x.a u e refl h) x.form);
    }

pub two_nodes : (k : Keyword) (c d : List Choice) (fs : List Follower) (t : Placed) (p : Form) → row k ≡ Takes (c ∷ d ∷ []) fs → token_kind k ≡ BadForm → are_plain fs ≡ true → ArePartsOf k t p → TwoNodes k c d t p
two_nodes k c d fs t p r b q a = let x = fit2 k c d fs t r b q a.fits in two_of k c d t p x (a.fixed ∙ x.fixed)
