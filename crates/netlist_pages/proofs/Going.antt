-- A list that is gone over item by item: what is left behind so many of them.
use Rattle.std.proofs.Common.{◌≡◌, ◌+◌, ◌<◌, ◌≤◌, ℕ, zero, suc, arith, List, [], ◌∷◌, length, drop, get_or, ap, ◌∙◌}

-- the next item stands at this place, and the others are left behind it
pub record IsNext {T : Type 0} (xs : List T) (place : ℕ) (x : T) (rest : List T) : Type 0 where
  pub within : place < length xs
  pub is : x ≡ get_or xs place x
  pub left : drop (place + 1) xs ≡ rest

pub next_item : {T : Type 0} (xs : List T) (place : ℕ) (x : T) (rest : List T) → drop place xs ≡ x ∷ rest → IsNext xs place x rest
next_item [] zero x rest e = absurd (cc e)
next_item [] (suc n) x rest e = absurd (cc e)
next_item (y ∷ ys) zero x rest e = record { within = omega arith; is = cc e; left = cc e }
next_item (y ∷ ys) (suc n) x rest e =
    let next = next_item ys n x rest e in
    let more : suc n + 1 ≡ suc (n + 1) = omega arith in
    record {
      within = omega (arith, next.within);
      is = next.is;
      left = ap (λ (k : ℕ). drop k (y ∷ ys)) more ∙ next.left;
    }

pub all_gone : {T : Type 0} (xs : List T) (place : ℕ) → drop place xs ≡ [] → length xs ≤ place
all_gone [] place e = omega arith
all_gone (y ∷ ys) zero e = absurd (cc e)
all_gone (y ∷ ys) (suc n) e = omega (arith, all_gone ys n e)
