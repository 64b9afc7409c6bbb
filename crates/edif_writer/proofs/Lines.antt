-- A line feed, and blanks behind it.
use Rattle.std.proofs.Common.{◌≡◌, ℕ, zero, suc, ◌+◌, ◌<◌, ◌≤◌, ◌∷◌, take, replicate, refl, ap, arith}

blanks_front : (n m : ℕ) → n ≤ m → take {A = ℕ} n (replicate m 32) ≡ replicate n 32
blanks_front zero m h = refl
blanks_front (suc n) zero h = absurd (omega arith)
blanks_front (suc n) (suc m) h = ap (λ v. 32 ∷ v) (blanks_front n m (omega arith))

-- the front of a line with 16 blanks
pub line_front : (level : ℕ) → level < 17 → take {A = ℕ} (level + 1) (10 ∷ replicate 16 32) ≡ 10 ∷ replicate level 32
line_front level h = let e : level + 1 ≡ suc level = omega arith in rw e (ap (λ v. 10 ∷ v) (blanks_front level 16 (omega arith)))
