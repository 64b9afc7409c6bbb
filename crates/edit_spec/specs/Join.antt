-- Joining an end to a net.
use Rattle.std.specs.Option.{option_map_or}
use Rattle.std.specs.Prelude.{◌++◌, ℕ, List, [], ◌∷◌, Option, length, option_map, option_to_list, ◌⊎◌}
use Rattle.netlist_schema.specs.Design.{Design}
use Rattle.netlist_schema.specs.Types.{Contents, End, Net, Port, Object}
use Rattle.netlist_schema.specs.declared.limits.TheConstants.{MOST_ENDS}
use Rattle.edit_rules_spec.specs.Edit.{changed_at}
use Rattle.edit_rules_spec.specs.Find.{net_place}
use Rattle.edit_rules_spec.specs.Reading.{IsForCell, IsForEnd}
use Rattle.edit_rules_spec.specs.Rule.{too_many, Rule, no_lib, no_cell}
use Rattle.edit_rules_spec.specs.Seen.{Named, named, inside, end_ports}
use Rattle.edit_rules_spec.specs.declared.reply.CellName.{CellName}
use Rattle.edit_rules_spec.specs.declared.reply.EndName.{EndName}
use Rattle.edit_rules_spec.specs.declared.reply.Reply.{Reply}
use Rattle.edit_rules_spec.specs.declared.reply.Reply.TheVariants.{Done, AlreadyJoined}
use Rattle.edit_spec.specs.Ends.{ends_in, no_end_inst, no_port, bad_bit, end_named, net_of_end}
use Rattle.edit_spec.specs.Inside.{no_net, set_nets}

abbrev pub already_joined : Option Contents → Option End → Option Reply
already_joined contents end = option_map (λ net. AlreadyJoined net.name.id) (net_of_end contents end)

-- the nets where the one with this name has one more end
abbrev pub net_with_end : Option End → Net → Net
net_with_end end net = record net { ends = net.ends ++ option_to_list end }

abbrev pub with_end : List ℕ → Option End → List Net → List Net
with_end name end nets = option_map_or (λ place. changed_at (net_with_end end) place nets) (net_place name nets) nets

-- the refusals to join an end in contents
abbrev pub no_join : Option Contents → Option (List Port) → List ℕ → EndName → List (Option Reply)
no_join contents ports net name =
    no_end_inst contents name.inst ∷ no_net contents net ∷ no_port ports name.port ∷ bad_bit ports name.port name.bit ∷ already_joined contents (end_named contents ports name) ∷ too_many (length (ends_in contents)) MOST_ENDS ∷ []

abbrev pub join : Named → Option Contents → Option (List Port) → List ℕ → EndName → Rule
join at contents ports net name = record {
  refusals = no_lib at ∷ no_cell at ∷ no_join contents ports net name;
  reply = Done;
  edits = set_nets at contents (with_end net (end_named contents ports name));
}

abbrev pub join_of : CellName → List ℕ → EndName → Design → Rule
join_of cell net end d = join (named d cell) (inside d cell) (end_ports d cell end.inst) net end

-- it needs the cell, its contents, and the interface of the cell of the end's instance
abbrev pub join_needs : CellName → EndName → Design → Object → Type 0
join_needs cell end d o = IsForCell d cell o ⊎ IsForEnd d cell end.inst o
