-- One use put into its list, and taken out.
use Rattle.std.specs.Prelude.{◌≡◌, ◌-◌, ◌++◌, ℕ, suc, false, List, [], ◌∷◌, Option, None, if◌then◌else◌, length, option_map, slice_get, take}
use Rattle.std.specs.List.{AllByRecursion, insert, remove}
use Rattle.std.specs.Option.{option_map_or}
use Rattle.netlist_schema.specs.Design.{Design, insts_of}
use Rattle.netlist_schema.specs.Hierarchy.{insts_at}
use Rattle.netlist_schema.specs.Types.{CellBody, CellId, Inst as InstType, LibId}
use Rattle.edit_rules_spec.specs.Edit.{changed_at}
use Rattle.edit_cells.specs.declared.change.CellChange.TheVariants.{Fresh, Inst}
use Rattle.edit_cells.specs.declared.change.Change.{Change}
use Rattle.used_spec.specs.Uses.{comes_before}
use Rattle.used_spec.specs.declared.used_at.UsedAt.{UsedAt}

-- no use comes before one in front of it; and so in each list of an index
abbrev pub IsRising : List UsedAt → Type 0
IsRising [] = Unit {0}
IsRising (u ∷ us) = AllByRecursion (λ v. comes_before v u ≡ false) us × IsRising us

abbrev pub IsRow : List (List UsedAt) → Type 0
IsRow cells = AllByRecursion IsRising cells

abbrev pub IsIndex : List (List (List UsedAt)) → Type 0
IsIndex index = AllByRecursion IsRow index

-- how many uses at the front of a list come before a use
abbrev pub place_of : UsedAt → List UsedAt → ℕ
place_of at [] = 0
place_of at (u ∷ us) = if comes_before u at then suc (place_of at us) else 0

-- the list with the use behind those, and without the one behind those
abbrev pub put_use : UsedAt → List UsedAt → List UsedAt
put_use at us = insert us (place_of at us) at

abbrev pub drop_use : UsedAt → List UsedAt → List UsedAt
drop_use at us = remove us (place_of at us)

-- the same in the list of a cell
abbrev pub put_in : CellId → UsedAt → List (List (List UsedAt)) → List (List (List UsedAt))
put_in of at index = changed_at (λ cells. changed_at (put_use at) of.slot cells) of.lib.0 index

abbrev pub drop_in : CellId → UsedAt → List (List (List UsedAt)) → List (List (List UsedAt))
drop_in of at index = changed_at (λ cells. changed_at (drop_use at) of.slot cells) of.lib.0 index

-- the index with an empty list more in a library, and with the last list of a library less
abbrev pub with_row : LibId → List (List (List UsedAt)) → List (List (List UsedAt))
with_row lib index = changed_at (λ cells. cells ++ [] ∷ []) lib.0 index

abbrev pub without_last : List (List UsedAt) → List (List UsedAt)
without_last cells = take (length cells - 1) cells

abbrev pub without_row : LibId → List (List (List UsedAt)) → List (List (List UsedAt))
without_row lib index = changed_at without_last lib.0 index

-- the index after an instance was put at a place: its cell has a use more, and the cell of the one that stood there a use less
abbrev pub turned : Option CellId → CellId → UsedAt → List (List (List UsedAt)) → List (List (List UsedAt))
turned old of at index = option_map_or (λ cell. drop_in cell at (put_in of at index)) old (put_in of at index)

-- the change puts one instance of a cell at that place, where one of the old cell stands, if any
pub record IsTurn (d : Design) (change : Change) (at : UsedAt) (of : CellId) (old : Option CellId) : Type 0 where
  pub notes : change.notes ≡ None
  pub inst : InstType
  pub only : change.cells ≡ Inst at.cell at.inst inst ∷ []
  pub now : inst.of ≡ of
  pub before : old ≡ option_map (λ i. i.of) (slice_get (insts_at d at.cell) at.inst)

-- the change adds a cell without instances to a library, and does nothing else
pub record IsBlank (change : Change) (lib : LibId) : Type 0 where
  pub notes : change.notes ≡ None
  pub id : CellId
  pub body : CellBody
  pub only : change.cells ≡ Fresh id body ∷ []
  pub here : id.lib ≡ lib
  pub blank : insts_of body ≡ []
