-- Names of copies are free, and are identifiers.
use Rattle.std.proofs.Common.{◌≡◌, ◌≤◌, ◌<◌, ◌+◌, ◌^◌, ◌⊎◌, ℕ, zero, suc, List, [], ◌∷◌, map, length, refl, sym, ap, subst, ◌∙◌, inl, inr, arith, Some, None, Bool, true, false, not}
use Rattle.std.specs.Prelude.{find, codes, unwrap_or}
use Rattle.std.specs.List.{list_any, range_with_len}
use Rattle.std.proofs.lemmas.Bool.{cases_Bool, true≢false, cond-true, cond-false, or_cases}
use Rattle.edit_rules_spec.specs.Find.{is_same}
use Rattle.edit_rules_spec.proofs.Numbers.{lower, numbers_apart}
use Rattle.flat_spec.proofs.ListLemmas.{Member, pigeons}
use Rattle.uniquify_spec.specs.Copies.{numbered, is_free, free_number}
use Rattle.uniquify_spec.specs.Laws.{IsLeastFree}
use Rattle.uniquify_spec.proofs.CopyLists.{same_path-true}

-- ---- the first number that passes

first_passing : (test : ℕ → Bool) (n a : ℕ)
    → ((find test (range_with_len a n) ≡ None) × ((k : ℕ) → a ≤ k → k < a + n → test k ≡ false))
    ⊎ ((k : ℕ) × (find test (range_with_len a n) ≡ Some k) × (a ≤ k) × (k < a + n) × (test k ≡ true) × ((j : ℕ) → a ≤ j → j < k → test j ≡ false))
first_passing test zero a = inl (refl, λ k p q. absurd (omega (arith, p, q)))
first_passing test (suc n) a = elim (cases_Bool (test a)) [
  | inl passes ↦
      let high : a < a + suc n = omega arith in
      let low : a ≤ a = omega arith in
      inr (a, cond-true _ _ _ passes, low, high, passes, λ j p q. absurd (omega (arith, p, q)))
  | inr fails ↦ elim (first_passing test n (a + 1)) [
    | inl none ↦ inl (cond-false _ _ _ fails ∙ none.0, λ k p q. at k p (λ low. let high : k < (a + 1) + n = omega (arith, q) in none.1 k low high) fails)
    | inr some ↦
        let low : a ≤ some.0 = let l = some.2 in omega (arith, l) in
        let high : some.0 < a + suc n = let h = some.3 in omega (arith, h) in
        inr (some.0, cond-false _ _ _ fails ∙ some.1, low, high, some.4, λ j p q. at j p (λ l. some.5 j l q) fails)
  ]
]
  where
    split : (k : ℕ) → a ≤ k → (k ≡ a) ⊎ (a + 1 ≤ k)
    split k p = grind (arith, p)

    at : (k : ℕ) → a ≤ k → (a + 1 ≤ k → test k ≡ false) → test a ≡ false → test k ≡ false
    at k p later here = elim (split k p) [ inl same ↦ subst (λ x. test x ≡ false) (sym same) here | inr more ↦ later more ]

-- ---- names that are free

-- what is not free is among the names in lower case
taken_member : (names : List (List ℕ)) (name : List ℕ) → list_any (λ other. is_same other name) names ≡ true → Member (map lower names) (lower name)
taken_member [] name e = absurd (true≢false (sym e))
taken_member (other ∷ names) name e = elim (or_cases _ _ e) [
  | inl here ↦ inl (same_path-true (lower other) (lower name) here)
  | inr later ↦ inr (taken_member names name later)
]

taken_of : (names : List (List ℕ)) (name : List ℕ) → is_free names name ≡ false → list_any (λ other. is_same other name) names ≡ true
taken_of names name e = elim (cases_Bool (list_any (λ other. is_same other name) names)) [
  | inl yes_it_is ↦ yes_it_is
  | inr free ↦ absurd (true≢false (sym (ap not free) ∙ e))
]

pub copies_get_least_free : (names : List (List ℕ)) (id : List ℕ) → length names < 2 ^ 63 → IsLeastFree names id (free_number names id)
copies_get_least_free names id few = elim (first_passing (λ n. is_free names (numbered id n)) (length names + 1) 1) [
  | inr some ↦
      let is : some.0 ≡ free_number names id = sym (ap (λ o. unwrap_or o 0) some.1) in
      subst (λ n. IsLeastFree names id n) is (record { from_one = some.2; free = some.4; least = some.5 })
  | inl none ↦
      let count = length-lower names in
      let many = pigeons (λ n. lower (numbered id n)) (length names + 1) 1 (map lower names)
      (λ j k p q r same.
      let small : k < 2 ^ 64 = omega (arith, r, few) in
      let smaller : j < 2 ^ 64 = omega (arith, r, q, few) in
      let equal = numbers_apart id (codes "_u") k j small smaller same in
      omega (arith, q, equal))
      (λ k p q. taken_member names (numbered id k) (taken_of names (numbered id k) (none.1 k p q))) in
      absurd (omega (arith, many, count))
]
  where
    length-lower : (xs : List (List ℕ)) → length (map lower xs) ≡ length xs
    length-lower [] = refl
    length-lower (x ∷ xs) = ap suc (length-lower xs)

-- and it fits
pub free_number_small : (names : List (List ℕ)) (id : List ℕ) → length names < 2 ^ 63 → free_number names id < 2 ^ 64
free_number_small names id few = elim (first_passing (λ n. is_free names (numbered id n)) (length names + 1) 1) [
  | inr some ↦
      let is : free_number names id ≡ some.0 = ap (λ o. unwrap_or o 0) some.1 in
      let high = some.3 in
      omega (arith, is, high, few)
  | inl none ↦ let is : ◌≡◌ {A = ℕ} (free_number names id) 0 = ap (λ o. unwrap_or o 0) none.0 in omega (arith, is)
]
