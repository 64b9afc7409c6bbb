-- Removing an end from its net.
use Rattle.std.specs.Option.{option_map_or}
use Rattle.std.specs.Prelude.{Bool, false, not, List, [], ◌∷◌, Option, map, is_none, filter, ◌⊎◌}
use Rattle.netlist_schema.specs.Design.{Design}
use Rattle.netlist_schema.specs.Types.{Contents, End, Net, Port, Object}
use Rattle.edit_rules_spec.specs.Reading.{IsForCell, IsForEnd}
use Rattle.edit_rules_spec.specs.Rule.{Rule, refuse, no_lib, no_cell}
use Rattle.edit_rules_spec.specs.Seen.{Named, named, inside, end_ports}
use Rattle.edit_rules_spec.specs.declared.reply.CellName.{CellName}
use Rattle.edit_rules_spec.specs.declared.reply.EndName.{EndName}
use Rattle.edit_rules_spec.specs.declared.reply.Reply.{Reply}
use Rattle.edit_rules_spec.specs.declared.reply.Reply.TheVariants.{Done, NotJoined}
use Rattle.flat_spec.specs.ConnectionTest.{same_end}
use Rattle.edit_spec.specs.Ends.{no_end_inst, no_port, bad_bit, end_named, net_of_end}
use Rattle.edit_spec.specs.Inside.{set_nets}

abbrev pub not_joined : Option Contents → Option End → Option Reply
not_joined contents end = refuse (is_none (net_of_end contents end)) NotJoined

-- the nets without an end
abbrev pub is_end : Option End → End → Bool
is_end end other = option_map_or (same_end other) end false

abbrev pub net_without_end : Option End → Net → Net
net_without_end end net = record net { ends = filter (λ other. not (is_end end other)) net.ends }

abbrev pub without_end : Option End → List Net → List Net
without_end end nets = map (net_without_end end) nets

-- the refusals to cut an end in contents
abbrev pub no_cut : Option Contents → Option (List Port) → EndName → List (Option Reply)
no_cut contents ports name =
    no_end_inst contents name.inst ∷ no_port ports name.port ∷ bad_bit ports name.port name.bit ∷ not_joined contents (end_named contents ports name) ∷ []

abbrev pub cut : Named → Option Contents → Option (List Port) → EndName → Rule
cut at contents ports name = record {
  refusals = no_lib at ∷ no_cell at ∷ no_cut contents ports name;
  reply = Done;
  edits = set_nets at contents (without_end (end_named contents ports name));
}

abbrev pub cut_of : CellName → EndName → Design → Rule
cut_of cell end d = cut (named d cell) (inside d cell) (end_ports d cell end.inst) end

-- it needs the cell, its contents, and the interface of the cell of the end's instance
abbrev pub cut_needs : CellName → EndName → Design → Object → Type 0
cut_needs cell end d o = IsForCell d cell o ⊎ IsForEnd d cell end.inst o
