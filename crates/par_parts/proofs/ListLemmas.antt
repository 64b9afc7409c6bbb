-- Fronts of lists that are dropped.
use Rattle.std.proofs.Common.{◌≡◌, ◌<◌, ◌≤◌, ◌+◌, ◌-◌, ℕ, zero, suc, List, [], ◌∷◌, ◌++◌, length, drop, refl, sym, ap, ◌∙◌, arith}

pub drop_none : {A : Type 0} (n : ℕ) → let none : List A = [] in drop n none ≡ none
drop_none zero = refl
drop_none (suc n) = refl

pub drop_drop : {A : Type 0} (n m : ℕ) (xs : List A) → drop m (drop n xs) ≡ drop (n + m) xs
drop_drop zero m xs = let e : m ≡ 0 + m = omega arith in ap (λ k. drop k xs) e
drop_drop (suc n) m [] = drop_none m ∙ sym (drop_none (suc n + m))
drop_drop (suc n) m (x ∷ xs) = let e : suc (n + m) ≡ suc n + m = omega arith in drop_drop n m xs ∙ ap (λ k. drop k (x ∷ xs)) e

-- what is dropped as a whole
pub drop_whole : {A : Type 0} (xs ys : List A) (n : ℕ) → length xs ≤ n → drop n (xs ++ ys) ≡ drop (n - length xs) ys
drop_whole [] ys n fits = let e : n ≡ n - 0 = omega arith in ap (λ k. drop k ys) e
drop_whole (x ∷ xs) ys zero fits = absurd (omega arith)
drop_whole (x ∷ xs) ys (suc n) fits = let e : n - length xs ≡ suc n - suc (length xs) = omega arith in drop_whole xs ys n (omega arith) ∙ ap (λ k. drop k ys) e

-- one item less is dropped of what is left behind the first
pub drop_one_less : {A : Type 0} (xs ys : List A) (n : ℕ) → 0 < n → ys ≡ drop 1 xs → drop (n - 1) ys ≡ drop n xs
drop_one_less xs ys n some is = let e : 1 + (n - 1) ≡ n = omega arith in ap (drop (n - 1)) is ∙ drop_drop 1 (n - 1) xs ∙ ap (λ k. drop k xs) e
