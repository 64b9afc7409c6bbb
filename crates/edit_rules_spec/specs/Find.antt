-- Look-ups by name. The first with an equal identifier is meant; in a valid design there is no other.
use Rattle.std.specs.Prelude.{ℕ, Bool, List, Option, map, nat_eq, slice_get, option_map, option_and_then}
use Rattle.std.specs.List.{position_from}
use Rattle.std.specs.Char.{to_ascii_lowercase}
use Rattle.std.specs.Cmp.Lexicographic.{pointwise}
use Rattle.netlist_schema.specs.Design.{Design, cells_in}
use Rattle.netlist_schema.specs.Names.{cell_names, lib_names}
use Rattle.netlist_schema.specs.Types.{CellId, Inst, LibId, Net, Port, Property}
use Rattle.edit_rules_spec.specs.declared.reply.CellName.{CellName}

-- the two identifiers are equal
abbrev pub is_name : List ℕ → List ℕ → Bool
is_name a b = pointwise nat_eq a b

-- the two identifiers are equal when the case of ASCII letters is ignored
abbrev pub is_same : List ℕ → List ℕ → Bool
is_same a b = is_name (map to_ascii_lowercase a) (map to_ascii_lowercase b)

-- the place of the first of these names that is this one
abbrev pub place_of : List ℕ → List (List ℕ) → Option ℕ
place_of name names = position_from (λ other. is_name other name) 0 names

-- a library, and a cell in a library
abbrev pub lib_named : Design → List ℕ → Option LibId
lib_named d name = option_map (λ place. record { 0 = place }) (place_of name (lib_names d.libs))

abbrev pub cell_in : Design → List ℕ → LibId → Option CellId
cell_in d name lib = option_map (λ slot. record { lib = lib; slot = slot }) (place_of name (cell_names (cells_in d lib)))

-- the cell with this name
abbrev pub cell_named : Design → CellName → Option CellId
cell_named d name = option_and_then (cell_in d name.cell) (lib_named d name.lib)

-- places of instances, nets, ports and properties
abbrev pub inst_place : List ℕ → List Inst → Option ℕ
inst_place name insts = place_of name (map (λ inst. inst.name.id) insts)

abbrev pub net_place : List ℕ → List Net → Option ℕ
net_place name nets = place_of name (map (λ net. net.name.id) nets)

abbrev pub port_place : List ℕ → List Port → Option ℕ
port_place name ports = place_of name (map (λ port. port.name.id) ports)

abbrev pub property_place : List ℕ → List Property → Option ℕ
property_place key properties = place_of key (map (λ property. property.key.id) properties)

-- the instance with this name
abbrev pub inst_named : List ℕ → List Inst → Option Inst
inst_named name insts = option_and_then (slice_get insts) (inst_place name insts)

-- the net with this name
abbrev pub net_named : List ℕ → List Net → Option Net
net_named name nets = option_and_then (slice_get nets) (net_place name nets)

-- the port with this name
abbrev pub port_named : List ℕ → List Port → Option Port
port_named name ports = option_and_then (slice_get ports) (port_place name ports)
