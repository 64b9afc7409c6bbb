-- Adding a cell.
use Rattle.std.specs.List.{list_any}
use Rattle.std.specs.Prelude.{◌||◌, ℕ, Bool, false, cond, nat_lt, List, [], ◌∷◌, Option, Some, None, map, length, is_none, option_map, option_to_list, codes, sum_by}
use Rattle.netlist_schema.specs.Design.{Design, cells_in, port_width}
use Rattle.netlist_schema.specs.Names.{cell_names}
use Rattle.netlist_schema.specs.Types.{CellBody, LibId, Port, Object}
use Rattle.netlist_schema.specs.declared.cell.CellKind.TheVariants.{Generic}
use Rattle.netlist_schema.specs.declared.limits.TheConstants.{MOST_BITS, MOST_CELLS, MOST_PORTS}
use Rattle.edit_rules_spec.specs.Edit.{fresh}
use Rattle.edit_rules_spec.specs.Find.{is_same, lib_named}
use Rattle.edit_rules_spec.specs.Reading.{IsForLib}
use Rattle.edit_rules_spec.specs.Rule.{too_many, Rule, refuse}
use Rattle.edit_rules_spec.specs.declared.reply.CellName.{CellName}
use Rattle.edit_rules_spec.specs.declared.reply.Reply.{Reply}
use Rattle.edit_rules_spec.specs.declared.reply.Reply.TheVariants.{Done, NoLib, Taken, TooMany}
use Rattle.edit_spec.specs.declared.ops.PortDecl.{PortDecl}

-- the names of the cells of a library that is found
abbrev pub names_in : Design → Option LibId → List (List ℕ)
names_in d None = []
names_in d (Some lib) = cell_names (cells_in d lib)

-- a new cell with these ports, as a leaf or with empty contents
abbrev pub new_port : PortDecl → Port
new_port decl = record { name = record { id = decl.name; shown = None }; array = decl.array; direction = decl.direction; designator = None; properties = [] }

abbrev pub new_cell : List ℕ → Bool → List PortDecl → CellBody
new_cell name leaf ports = record {
  name = record { id = name; shown = None };
  kind = Generic;
  properties = [];
  view = record { id = codes "netlist"; shown = None };
  view_properties = [];
  interface_properties = [];
  ports = map new_port ports;
  contents = cond leaf None (Some (record { insts = []; nets = [] }));
}

-- two of these names are the same, where the case of letters is ignored
abbrev pub has_twice : List (List ℕ) → Bool
has_twice [] = false
has_twice (name ∷ names) = list_any (is_same name) names || has_twice names

-- the refusals to add a cell to a library that is there, of this many cells, where its name is taken or not
abbrev pub no_new_cell : Bool → ℕ → List PortDecl → List (Option Reply)
no_new_cell taken count ports =
    refuse (taken || has_twice (map (λ port. port.name) ports)) Taken ∷ too_many count MOST_CELLS ∷ refuse (nat_lt MOST_PORTS (length ports)) (TooMany MOST_PORTS) ∷ refuse (nat_lt MOST_BITS (sum_by port_width (map new_port ports))) (TooMany MOST_BITS) ∷ []

abbrev pub add_cell : Option LibId → List (List ℕ) → List ℕ → Bool → List PortDecl → Rule
add_cell lib names name leaf ports = record {
  refusals = refuse (is_none lib) NoLib ∷ no_new_cell (list_any (λ other. is_same other name) names) (length names) ports;
  reply = Done;
  edits = option_to_list (option_map (λ l. fresh (record { lib = l; slot = length names }) (new_cell name leaf ports)) lib);
}

abbrev pub add_cell_of : CellName → Bool → List PortDecl → Design → Rule
add_cell_of cell leaf ports d = add_cell (lib_named d cell.lib) (names_in d (lib_named d cell.lib)) cell.cell leaf ports

-- it needs the directory alone
abbrev pub add_cell_needs : CellName → Design → Object → Type 0
add_cell_needs cell d o = IsForLib (lib_named d cell.lib) o
