-- One note more in the table.
use Rattle.std.proofs.Common.{◌≡◌, ℕ, List, [], ◌∷◌, ◌++◌, sym, ap, ◌∙◌, Some, None, Option, true, false}
use Rattle.std.specs.Prelude.{cond}
use Rattle.std.specs.Cmp.Lexicographic.{texts_ties}
use Rattle.std.specs.Option.{option_map_or}
use Rattle.std.proofs.lemmas.Bool.{cond-true, cond-false, false_from_ne_true}
use Rattle.flat_spec.proofs.TestLemmas.{same_path}
use Rattle.std.specs.BTreeMap.{is_at}
use Rattle.flat_items.specs.Placed.{steps_cmp}
use Rattle.flat_items.specs.declared.steps.Steps.{Steps}

at_same : (s q : Steps) → q.steps.items ≡ s.steps.items → is_at (steps_cmp s) q ≡ true
at_same s q e = sym (texts_ties s.steps.items q.steps.items) ∙ (same_path s.steps.items q.steps.items).1 (sym e)

at_other : (s q : Steps) → (q.steps.items ≡ s.steps.items → ⊥) → is_at (steps_cmp s) q ≡ false
at_other s q n =
    false_from_ne_true (is_at (steps_cmp s) q) (λ t. n (sym ((same_path s.steps.items q.steps.items).0 (texts_ties s.steps.items q.steps.items ∙ t))))

module _ {V : Type 0} (items : V → List ℕ) (before mid after : Steps → Option V) (s : Steps) (place : ℕ) (places : V)
    (mid_is : (q : Steps) → mid q ≡ cond (is_at (steps_cmp s) q) None (before q)) (after_is : (q : Steps) → after q ≡ cond (is_at (steps_cmp s) q) (Some places) (mid q))
    (same : (q : Steps) → q.steps.items ≡ s.steps.items → before q ≡ before s) (more : items places ≡ option_map_or items (before s) [] ++ place ∷ []) where
  pub added_here : (q : Steps) → q.steps.items ≡ s.steps.items → option_map_or items (after q) [] ≡ option_map_or items (before q) [] ++ place ∷ []
  added_here q e =
      ap (λ o. option_map_or items o []) (after_is q ∙ cond-true (is_at (steps_cmp s) q) (Some places) (mid q) (at_same s q e))
      ∙ more ∙ ap (λ o. option_map_or items o [] ++ place ∷ []) (sym (same q e))

  pub added_others : (q : Steps) → (q.steps.items ≡ s.steps.items → ⊥) → option_map_or items (after q) [] ≡ option_map_or items (before q) []
  added_others q n =
      let apart = at_other s q n in
      ap (λ o. option_map_or items o [])
      (after_is q ∙ cond-false (is_at (steps_cmp s) q) (Some places) (mid q) apart ∙ mid_is q ∙ cond-false (is_at (steps_cmp s) q) None (before q) apart)
