-- Places found by name are within the list.
use Rattle.std.proofs.Common.{◌++◌, get_or, take, nat_lt, slice_set, ◌≤◌, ◌≡◌, ◌<◌, ◌+◌, ℕ, suc, arith, Bool, true, false, cond, List, [], ◌∷◌, length, map, Option, Some, None, refl, sym, ap, ◌∙◌}
use Rattle.std.specs.Prelude.{IfSome}
use Rattle.std.proofs.lemmas.Bool.{le-leb, lt-leb}
use Rattle.std.proofs.lemmas.List.{length-map, map_more}
use Rattle.netlist_parts.specs.Put.{put_at}
use Rattle.std.specs.List.{position_from}
use Rattle.edit_rules_spec.specs.Find.{is_name, place_of}

within_tested : (b : Bool) (i n k : ℕ) (rest : Option ℕ) → (b ≡ true → i ≡ k → k < n) → (rest ≡ Some k → k < n) → cond b (Some i) rest ≡ Some k → k < n
within_tested true i n k rest here later is = here refl (cc)
within_tested false i n k rest here later is = later is

position_within : {X : Type 0} (test : X → Bool) (i k : ℕ) (xs : List X) → position_from test i xs ≡ Some k → k < i + length xs
position_within test i k [] is = cc
position_within test i k (x ∷ xs) is =
    within_tested (test x) i (i + suc (length xs)) k (position_from test (i + 1) xs)
    (λ _ same. omega arith)
    (λ later. let more = position_within test (i + 1) k xs later in omega arith) is

pub place_within : {X : Type 0} (f : X → List ℕ) (name : List ℕ) (xs : List X) (found : Option ℕ) → found ≡ place_of name (map f xs) → IfSome found (λ place. place < length xs)
place_within f name xs None is = tt
place_within f name xs (Some place) is =
    let within = position_within (λ other. is_name other name) 0 place (map f xs) (sym is) in
    let same = length-map xs f in omega arith

pub first_within : {X : Type 0} (test : X → Bool) (xs : List X) (found : Option ℕ) → found ≡ position_from test 0 xs → IfSome found (λ place. place < length xs)
first_within test xs None is = tt
first_within test xs (Some place) is = let within = position_within test 0 place xs (sym is) in omega arith

-- one more item of a list that is gone through
pub map_one_more : {X Y : Type 0} (f : X → Y) (xs : List X) (i : ℕ) (x : X) → i < length xs → x ≡ get_or xs i x → map f (take (i + 1) xs) ≡ map f (take i xs) ++ f x ∷ []
map_one_more f xs i x within is = map_more f xs i x within ∙ ap (λ y. map f (take i xs) ++ f y ∷ []) (sym is)

not_below : (a b : ℕ) → b ≤ a → nat_lt a b ≡ false
not_below a b past = lt-leb (suc a) b (omega arith)

-- an item that is put behind the last, and one that is put in the place of another
pub put_last : {X : Type 0} (xs : List X) (place : ℕ) (x : X) → place ≡ length xs → put_at xs place x ≡ xs ++ x ∷ []
put_last xs place x is =
    let past : nat_lt place (length xs) ≡ false = not_below place (length xs) (omega arith) in
    ap (λ b. cond b (slice_set xs place x) (xs ++ x ∷ [])) past

pub put_within : {X : Type 0} (xs : List X) (place : ℕ) (x : X) → place < length xs → put_at xs place x ≡ slice_set xs place x
put_within xs place x within =
    let inside : nat_lt place (length xs) ≡ true = le-leb (suc place) (length xs) within in
    ap (λ b. cond b (slice_set xs place x) (xs ++ x ∷ [])) inside
