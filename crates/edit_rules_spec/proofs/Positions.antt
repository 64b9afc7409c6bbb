-- The place of the first that passes a test, by recursion and by std.
use Rattle.std.proofs.Common.{◌≡◌, ℕ, suc, arith, ◌+◌, Bool, true, false, not, cond, List, [], ◌∷◌, map, length, Option, Some, None, refl, sym, ap, ◌∙◌}
use Rattle.std.specs.Prelude.{nat_lt}
use Rattle.std.specs.List.{position_from, position_or_len}
use Rattle.std.proofs.lemmas.Bool.{le-leb}
use Rattle.std.proofs.lemmas.Bool.Decides.{nat_tests}

same_test : (n len : ℕ) → nat_lt (1 + n) (suc len) ≡ nat_lt n len
same_test n len = grind (arith, nat_tests)

pub one_more : (b : Bool) (i n len : ℕ) (rest : Option ℕ) → rest ≡ cond (nat_lt n len) (Some (i + 1 + n)) None → cond b (Some i) rest ≡ cond (nat_lt (cond (not b) (1 + n) 0) (suc len)) (Some (i + cond (not b) (1 + n) 0)) None
one_more true i n len rest is =
    let within : nat_lt 0 (suc len) ≡ true = le-leb 1 (suc len) (omega arith) in
    let here : i ≡ i + 0 = omega arith in
    ap (λ k. Some k) here ∙ ap (λ b. cond b (Some (i + 0)) None) (sym within)
one_more false i n len rest is =
    let here : i + 1 + n ≡ i + (1 + n) = omega arith in
    is ∙ ap (λ k. cond (nat_lt n len) (Some k) None) here ∙ ap (λ b. cond b (Some (i + (1 + n))) None) (sym (same_test n len))

-- the place by recursion is std's position
pub position_from-position : {X : Type 0} (test : X → Bool) (i : ℕ) (xs : List X) → position_from test i xs ≡ cond (nat_lt (position_or_len test xs) (length xs)) (Some (i + position_or_len test xs)) None
position_from-position test i [] = refl
position_from-position test i (x ∷ xs) = one_more (test x) i (position_or_len test xs) (length xs) (position_from test (i + 1) xs) (position_from-position test (i + 1) xs)

pub position_from-map : {X Y : Type 0} (test : Y → Bool) (f : X → Y) (i : ℕ) (xs : List X) → position_from test i (map f xs) ≡ position_from (λ x. test (f x)) i xs
position_from-map test f i [] = refl
position_from-map test f i (x ∷ xs) = ap (λ rest. cond (test (f x)) (Some i) rest) (position_from-map test f (i + 1) xs)
