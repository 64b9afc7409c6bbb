-- Showing the ends of a net by name.
use Rattle.std.specs.List.{flat_map}
use Rattle.std.specs.Option.{option_map_or}
use Rattle.std.specs.Prelude.{ℕ, List, [], ◌∷◌, Option, Some, None, slice_get, option_map, option_and_then, option_to_list, ◌⊎◌}
use Rattle.netlist_schema.specs.Design.{Design, insts_in, nets_in}
use Rattle.netlist_schema.specs.Types.{Contents, End, Inst, Port, Object}
use Rattle.edit_rules_spec.specs.Find.{net_named}
use Rattle.edit_rules_spec.specs.Objects.{face_at}
use Rattle.edit_rules_spec.specs.Reading.{IsForCell, IsFaceOf}
use Rattle.edit_rules_spec.specs.Rule.{Rule, no_lib, no_cell}
use Rattle.edit_rules_spec.specs.Seen.{Named, named, inside, ports_seen}
use Rattle.edit_rules_spec.specs.declared.reply.CellName.{CellName}
use Rattle.edit_rules_spec.specs.declared.reply.EndName.{EndName}
use Rattle.edit_rules_spec.specs.declared.reply.Reply.TheVariants.{Net as ShownNet}
use Rattle.edit_spec.specs.Inside.{no_net}

-- the ends of the net with this name
abbrev pub ends_of_net : Option Contents → List ℕ → List End
ends_of_net contents net = option_map_or (λ found. found.ends) (net_named net (nets_in contents)) []

-- the instance of an end, where it is at one
abbrev pub inst_of_end : Option Contents → End → Option Inst
inst_of_end contents end = option_and_then (slice_get (insts_in contents)) end.inst

-- the ports of an end's cell: those of the cell itself, or of the cell of the instance at this place
abbrev pub ports_at : Design → Option (List Port) → Option Contents → Option ℕ → Option (List Port)
ports_at d ports contents None = ports
ports_at d ports contents (Some place) = ports_seen (option_and_then (λ inst. face_at d inst.of) (slice_get (insts_in contents) place))

-- an end by the names of its instance and its port
abbrev pub end_by_name : Option Inst → Option Port → ℕ → Option EndName
end_by_name inst port bit = option_map (λ p. record { inst = option_map (λ i. i.name.id) inst; port = p.name.id; bit = bit }) port

abbrev pub ends_by_name : Design → Option (List Port) → Option Contents → List End → List EndName
ends_by_name d ports contents ends =
    flat_map (λ end. option_to_list (end_by_name (inst_of_end contents end) (option_and_then (λ seen. slice_get seen end.port) (ports_at d ports contents end.inst)) end.bit)) ends

-- the ends of a net of a cell, by name
abbrev pub net_shown : Design → CellName → List ℕ → List EndName
net_shown d cell net = ends_by_name d (ports_seen (named d cell).face) (inside d cell) (ends_of_net (inside d cell) net)

abbrev pub show_net : Named → Option Contents → List EndName → List ℕ → Rule
show_net at contents ends net = record {
  refusals = no_lib at ∷ no_cell at ∷ no_net contents net ∷ [];
  reply = ShownNet ends;
  edits = [];
}

abbrev pub show_net_of : CellName → List ℕ → Design → Rule
show_net_of cell net d = show_net (named d cell) (inside d cell) (net_shown d cell net) net

-- the interfaces of the cells of the instances that these ends are at
abbrev pub IsAtEnd : Option Contents → List End → Object → Type 0
IsAtEnd contents [] o = ⊥
IsAtEnd contents (end ∷ ends) o = IsFaceOf (inst_of_end contents end) o ⊎ IsAtEnd contents ends o

-- it needs the cell, its contents, and the interfaces of the cells of the instances that the net joins
abbrev pub show_net_needs : CellName → List ℕ → Design → Object → Type 0
show_net_needs cell net d o = IsForCell d cell o ⊎ IsAtEnd (inside d cell) (ends_of_net (inside d cell) net) o
