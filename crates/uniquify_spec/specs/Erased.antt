-- The flattening with the names of blocks left out.
use Rattle.std.specs.Prelude.{ℕ, cond, List, Option, None, map}
use Rattle.netlist_schema.specs.Design.{Design}
use Rattle.netlist_schema.specs.Types.{CellId, Property}
use Rattle.edit_rules_spec.specs.Objects.{cell_name_at}
use Rattle.edit_rules_spec.specs.declared.reply.CellName.{CellName}
use Rattle.flat_spec.specs.Flattening.{flattening}
use Rattle.flat_spec.specs.Types.{Item}
use Rattle.flat_spec.specs.declared.item.Item.TheVariants.{Enter, Net, Pin}
use Rattle.uniquify_spec.specs.Blocks.{is_block}

-- an occurrence with the name of its cell, which is left out where the cell is a block; or another item
pub data Erased : Type 0 where
  entered : List ℕ → Option CellName → List Property → Erased
  other : Item → Erased

-- the name of a cell, where it is no block
abbrev pub leaf_name : Design → CellId → Option CellName
leaf_name d id = cond (is_block d id) None (cell_name_at d id)

abbrev pub erased : Design → Item → Erased
erased d (Enter path cell properties) = entered path (leaf_name d cell) properties
erased d (Net path net first) = other (Net path net first)
erased d (Pin path port bit first) = other (Pin path port bit first)

abbrev pub erased_flattening : Design → List Erased
erased_flattening d = map (erased d) (flattening d)
