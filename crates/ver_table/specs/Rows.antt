-- Words of the clauses on tables.
use Rattle.std.specs.Prelude.{◌≡◌, ℕ, suc, ◌+◌, ◌/◌, ◌==◌, if◌then◌else◌, List, [], ◌∷◌, map, slice_get}
use Rattle.std.specs.List.{list_any}
use Rattle.std.specs.Ordering.{nat_cmp}
use Rattle.std.specs.FinMap.{FinMap, get, insert, keys}

-- each slot of the table has the item at that place of the list, and every slot past the end has none
pub record Lists {T : Type 0} (table : FinMap nat_cmp T) (items : List T) : Type 0 where
  pub each : (slot : ℕ) → get table slot ≡ slice_get items slot

-- the items with their slots, from a first slot on
abbrev pub numbered : {T : Type 0} → ℕ → List T → List (ℕ × T)
numbered from [] = []
numbered from (x ∷ items) = (from, x) ∷ numbered (suc from) items

-- the table with each item set at its slot
abbrev pub set_all : {T : Type 0} → FinMap nat_cmp T → List (ℕ × T) → FinMap nat_cmp T
set_all table [] = table
set_all table (change ∷ changes) = set_all (insert table change.0 change.1) changes

-- how many different numbers a list has: a number counts where it stands last
abbrev pub different : List ℕ → ℕ
different [] = 0
different (x ∷ xs) = if list_any (λ y. x == y) xs then different xs else different xs + 1

-- how many different quotients the set slots have, rounded down
abbrev pub page_count : {T : Type 0} → ℕ → FinMap nat_cmp T → ℕ
page_count size table = different (map (λ slot. slot / size) (keys table))
