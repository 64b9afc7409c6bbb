-- An element of a list of lists, when one is set.
use Rattle.std.proofs.Common.{◌≡◌, ◌≢◌, ◌<◌, ◌⊎◌, ℕ, zero, suc, List, [], ◌∷◌, length, set, refl, sym, ap, ◌∙◌, inl, inr, arith, Some, Option, slice_get}
use Rattle.std.specs.Prelude.{option_and_then}
use Rattle.std.proofs.lemmas.Bool.{cases_eq}

pub set_here : {A : Type 0} (xs : List A) (i : ℕ) (x : A) → i < length xs → slice_get (set xs i x) i ≡ Some x
set_here [] i x l = absurd (omega arith)
set_here (y ∷ xs) zero x l = refl
set_here (y ∷ xs) (suc i) x l = set_here xs i x (omega arith)

pub set_other : {A : Type 0} (xs : List A) (i j : ℕ) (x : A) → j ≢ i → slice_get (set xs i x) j ≡ slice_get xs j
set_other [] i j x n = refl
set_other (y ∷ xs) zero zero x n = absurd (n refl)
set_other (y ∷ xs) zero (suc j) x n = refl
set_other (y ∷ xs) (suc i) zero x n = refl
set_other (y ∷ xs) (suc i) (suc j) x n = set_other xs i j x (λ e. n (ap suc e))

module _ {R A : Type 0} (items : R → List A) where
  -- the element at a place of a row
  abbrev pub at : List R → ℕ → ℕ → Option A
  at rows i j = option_and_then (λ row. slice_get (items row) j) (slice_get rows i)

  module _ (rows new : List R) (i j : ℕ) (row changed : R) (x : A) (within : i < length rows) (is : slice_get rows i ≡ Some row)
      (set_row : items changed ≡ set (items row) j x) (set_rows : new ≡ set rows i changed) where
    here-row : slice_get new i ≡ Some changed
    here-row = ap (λ v. slice_get v i) set_rows ∙ set_here rows i changed within

    pub nested_here : j < length (items row) → at new i j ≡ Some x
    nested_here inside = ap (option_and_then (λ r. slice_get (items r) j)) here-row ∙ ap (λ v. slice_get v j) set_row ∙ set_here (items row) j x inside

    in_other_row : (k l : ℕ) → k ≢ i → at new k l ≡ at rows k l
    in_other_row k l apart =
        ap (option_and_then (λ r. slice_get (items r) l)) (ap (λ v. slice_get v k) set_rows ∙ set_other rows i k changed apart)

    pub nested_other : (k l : ℕ) → (k ≢ i) ⊎ (l ≢ j) → at new k l ≡ at rows k l
    nested_other k l (inl apart) = in_other_row k l apart
    nested_other k l (inr apart) = elim (cases_eq k i) [
      | inl same ↦
          let before : at rows k l ≡ slice_get (items row) l = ap (λ v. at rows v l) same ∙ ap (option_and_then (λ r. slice_get (items r) l)) is in
          let after : at new k l ≡ slice_get (items changed) l = ap (λ v. at new v l) same ∙ ap (option_and_then (λ r. slice_get (items r) l)) here-row in
          after ∙ ap (λ v. slice_get v l) set_row ∙ set_other (items row) j l x apart ∙ sym before
      | inr other ↦ in_other_row k l other
    ]
