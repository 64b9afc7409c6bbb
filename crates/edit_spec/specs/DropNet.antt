-- Removing a net.
use Rattle.std.specs.Option.{option_map_or}
use Rattle.std.specs.Prelude.{ℕ, List, [], ◌∷◌, Option, remove}
use Rattle.netlist_schema.specs.Design.{Design}
use Rattle.netlist_schema.specs.Types.{Contents, Net, Object}
use Rattle.edit_rules_spec.specs.Find.{net_place}
use Rattle.edit_rules_spec.specs.Reading.{IsForCell}
use Rattle.edit_rules_spec.specs.Rule.{Rule, no_lib, no_cell}
use Rattle.edit_rules_spec.specs.Seen.{Named, named, inside}
use Rattle.edit_rules_spec.specs.declared.reply.CellName.{CellName}
use Rattle.edit_rules_spec.specs.declared.reply.Reply.TheVariants.{Done}
use Rattle.edit_spec.specs.Inside.{no_net, set_nets}

-- the nets without the one with this name
abbrev pub without_net : List ℕ → List Net → List Net
without_net name nets = option_map_or (remove nets) (net_place name nets) nets

abbrev pub drop_net : Named → Option Contents → List ℕ → Rule
drop_net at contents net = record {
  refusals = no_lib at ∷ no_cell at ∷ no_net contents net ∷ [];
  reply = Done;
  edits = set_nets at contents (without_net net);
}

abbrev pub drop_net_of : CellName → List ℕ → Design → Rule
drop_net_of cell net d = drop_net (named d cell) (inside d cell) net

-- it needs the cell and its contents
abbrev pub drop_net_needs : CellName → Design → Object → Type 0
drop_net_needs cell d o = IsForCell d cell o
