-- What an index comes to while it is made.
use Rattle.std.specs.Prelude.{◌≡◌, ℕ, List, [], ◌∷◌, ◌++◌, length, map, option_map}
use Rattle.std.specs.List.{range_with_len}
use Rattle.netlist_schema.specs.Design.{Design}
use Rattle.netlist_schema.specs.Types.{CellId}
use Rattle.edit_rules_spec.specs.Edit.{changed_at}
use Rattle.used_spec.specs.Uses.{Placed, count_in, users_among, users_at}
use Rattle.used_spec.specs.declared.used_at.UsedAt.{UsedAt}

-- an empty list for each of so many cells, and for each cell of a design
abbrev pub blank_row : ℕ → List (List UsedAt)
blank_row count = map (λ slot. []) (range_with_len 0 count)

abbrev pub blank_index : Design → List (List (List UsedAt))
blank_index d = map (λ lib. blank_row (count_in d lib)) (range_with_len 0 (length d.libs))

-- one use more in the list at a place, and in that of a cell
abbrev pub with_use_in : ℕ → UsedAt → List (List UsedAt) → List (List UsedAt)
with_use_in slot at cells = changed_at (λ users. users ++ at ∷ []) slot cells

abbrev pub with_use : CellId → UsedAt → List (List (List UsedAt)) → List (List (List UsedAt))
with_use of at index = changed_at (with_use_in of.slot at) of.lib.0 index

-- the list of each cell goes on by those of the instances that are of it
pub record HasAdded (old new : List (List (List UsedAt))) (placed : List Placed) : Type 0 where
  pub libs : length new ≡ length old
  pub each : (cell : CellId) → users_at new cell ≡ option_map (λ users. users ++ users_among cell placed) (users_at old cell)
