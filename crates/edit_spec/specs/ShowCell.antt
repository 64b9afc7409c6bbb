-- Showing a cell.
use Rattle.std.specs.Option.{option_map_or}
use Rattle.std.specs.Prelude.{[], ◌∷◌, Option, length, is_none}
use Rattle.netlist_schema.specs.Design.{Design, insts_in, nets_in}
use Rattle.netlist_schema.specs.Types.{Contents, Object}
use Rattle.edit_rules_spec.specs.Reading.{IsForCell}
use Rattle.edit_rules_spec.specs.Rule.{Rule, no_lib, no_cell}
use Rattle.edit_rules_spec.specs.Seen.{Named, named, inside, ports_seen}
use Rattle.edit_rules_spec.specs.declared.reply.CellName.{CellName}
use Rattle.edit_rules_spec.specs.declared.reply.Reply.TheVariants.{Cell}

abbrev pub show_cell : Named → Option Contents → Rule
show_cell at contents = record {
  refusals = no_lib at ∷ no_cell at ∷ [];
  reply = Cell (option_map_or length (ports_seen at.face) 0) (length (insts_in contents)) (length (nets_in contents)) (is_none contents);
  edits = [];
}

abbrev pub show_cell_of : CellName → Design → Rule
show_cell_of cell d = show_cell (named d cell) (inside d cell)

-- it needs the cell and its contents
abbrev pub show_cell_needs : CellName → Design → Object → Type 0
show_cell_needs cell d o = IsForCell d cell o
