-- A list whose items are turned one by one, in their places.
use Rattle.std.proofs.Common.{◌≡◌, ◌+◌, ◌≤◌, ℕ, zero, suc, arith, List, [], ◌∷◌, ◌++◌, length, map, take, drop, Some, slice_get, refl, ap, ◌∙◌}
use Rattle.std.specs.Prelude.{slice_set}

-- an item that is put where it stands
pub put_same : {A : Type 0} (xs : List A) (i : ℕ) (x y : A) → slice_get xs i ≡ Some x → y ≡ x → xs ≡ slice_set xs i y
put_same [] i x y at is = absurd (cc at)
put_same (z ∷ xs) zero x y at is =
    let same : z ≡ y = cc (at, is) in
    ap (λ v. v ∷ xs) same
put_same (z ∷ xs) (suc i) x y at is = ap (λ l. z ∷ l) (put_same xs i x y at is)

module _ {A : Type 0} (f : A → A) where
  pub turned_get : (xs : List A) (i : ℕ) (x : A) → slice_get xs i ≡ Some x → slice_get (map f (take i xs) ++ drop i xs) i ≡ Some x
  turned_get [] zero x at = at
  turned_get [] (suc i) x at = at
  turned_get (y ∷ ys) zero x at = at
  turned_get (y ∷ ys) (suc i) x at = turned_get ys i x at

  pub turned_more : (xs : List A) (i : ℕ) (x : A) → slice_get xs i ≡ Some x → slice_set (map f (take i xs) ++ drop i xs) i (f x) ≡ map f (take (i + 1) xs) ++ drop (i + 1) xs
  turned_more [] zero x at = absurd (cc at)
  turned_more [] (suc i) x at = absurd (cc at)
  turned_more (y ∷ ys) zero x at =
      let same : x ≡ y = cc at in
      ap (λ v. f v ∷ ys) same
  turned_more (y ∷ ys) (suc i) x at =
      let next : suc (i + 1) ≡ suc i + 1 = omega arith in
      ap (λ l. f y ∷ l) (turned_more ys i x at) ∙ ap (λ n. map f (take n (y ∷ ys)) ++ drop n (y ∷ ys)) next

  pub turned_whole : (xs : List A) (i : ℕ) → length xs ≤ i → map f (take i xs) ++ drop i xs ≡ map f xs
  turned_whole [] zero past = refl
  turned_whole [] (suc i) past = refl
  turned_whole (y ∷ ys) zero past = absurd (omega arith)
  turned_whole (y ∷ ys) (suc i) past = ap (λ l. f y ∷ l) (turned_whole ys i (omega arith))
