-- The port of an end.
use Rattle.std.specs.Prelude.{◌≡◌, [], ◌∷◌, ℕ, List, Option, Some, None, length, option_map, option_and_then}
use Rattle.netlist_schema.specs.Design.{Design, insts_in, port_width}
use Rattle.netlist_schema.specs.Types.{CellId, Contents, End, Object, Port}
use Rattle.netlist_schema.specs.declared.limits.TheConstants.{MOST_ENDS}
use Rattle.edit_rules_spec.specs.Find.{inst_named, port_place, port_named}
use Rattle.edit_spec.specs.Ends.{ends_in}
use Rattle.edit_spec.specs.Join.{already_joined}
use Rattle.edit_rules_spec.specs.Rule.{too_many}
use Rattle.edit_rules_spec.specs.Seen.{contents_at, ports_seen}
use Rattle.edit_rules_spec.specs.Objects.{face_at, face_object}
use Rattle.edit_rules_spec.specs.declared.reply.Reply.{Reply}
use Rattle.eco_ops.specs.declared.end_plans.PortAt.{PortAt}

-- the cell whose port an end is at: the cell itself, or that of the instance that is named, where it is there
abbrev pub cell_of_end : Option Contents → CellId → Option (List ℕ) → Option CellId
cell_of_end contents id None = Some id
cell_of_end contents id (Some name) = option_map (λ inst. inst.of) (inst_named name (insts_in contents))

-- a port by its place and its width
pub record PortSeen : Type 0 where
  pub place : ℕ
  pub width : ℕ

abbrev pub seen_port : PortAt → PortSeen
seen_port port = record { place = port.place; width = port.width }

-- the port with a name
abbrev pub port_in : List ℕ → List Port → Option PortSeen
port_in name ports = option_and_then (λ place. option_map (λ port. record { place = place; width = port_width port }) (port_named name ports)) (port_place name ports)

-- the ports that an end may be at, for the cell with this id
abbrev pub end_ports_at : Design → CellId → Option (List ℕ) → Option (List Port)
end_ports_at d id inst = option_and_then (λ of. ports_seen (face_at d of)) (cell_of_end (contents_at d id) id inst)

-- what is seen of that cell, where there is one
abbrev pub IsFaceAt : Option CellId → Object → Type 0
IsFaceAt None o = ⊥
IsFaceAt (Some id) o = o ≡ face_object id

-- the refusals to join an end whose place is found
abbrev pub no_more_end : Contents → End → List (Option Reply)
no_more_end contents end = already_joined (Some contents) (Some end) ∷ too_many (length (ends_in (Some contents))) MOST_ENDS ∷ []
