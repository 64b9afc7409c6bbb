-- A list with an item put.
use Rattle.std.specs.Prelude.{ℕ, List, [], ◌∷◌, ◌++◌, cond, length, nat_lt, slice_set}

-- the list with an item at a place: it replaces the one there, or goes behind the last
abbrev pub put_at : {X : Type 0} → List X → ℕ → X → List X
put_at xs place x = cond (nat_lt place (length xs)) (slice_set xs place x) (xs ++ x ∷ [])
