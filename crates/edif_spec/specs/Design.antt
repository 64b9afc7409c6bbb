-- Names and parts of a design, as references and the text use them.
use Rattle.std.specs.Prelude.{ℕ, List, [], Option, map, slice_get, option_map, unwrap_or}
use Rattle.std.specs.Option.{option_map_or}
pub use Rattle.netlist_schema.specs.Types.{CellBody, CellId, CellKind, Contents, Direction, End, Inst, Lib, LibHead, LibId, Name, Net, Note, Num, Port, Property, TopHead, Value}
pub use Rattle.netlist_schema.specs.Design.{Design, insts_of, port_width}

-- the cell with an id, among these libraries
abbrev pub cell_at : List Lib → CellId → Option CellBody
cell_at libs id = slice_get (option_map_or (λ lib. lib.cells) (slice_get libs id.lib.0) []) id.slot

-- the instances of that cell, none where there is no such cell
abbrev pub insts_at : List Lib → CellId → List Inst
insts_at libs id = unwrap_or (option_map insts_of (cell_at libs id)) []

-- the ports of that cell
abbrev pub ports_at : List Lib → CellId → List Port
ports_at libs id = unwrap_or (option_map (λ cell. cell.ports) (cell_at libs id)) []

-- the identifier of a library; no bytes where there is no such thing, as in those that follow
abbrev pub lib_id : List Lib → ℕ → List ℕ
lib_id libs place = unwrap_or (option_map (λ lib. lib.head.name.id) (slice_get libs place)) []

-- the identifier of a cell
abbrev pub cell_id : List Lib → CellId → List ℕ
cell_id libs id = unwrap_or (option_map (λ cell. cell.name.id) (cell_at libs id)) []

-- the identifier of the view of a cell
abbrev pub view_id : List Lib → CellId → List ℕ
view_id libs id = unwrap_or (option_map (λ cell. cell.view.id) (cell_at libs id)) []

-- the identifier of an instance
abbrev pub inst_id : List Inst → ℕ → List ℕ
inst_id insts place = unwrap_or (option_map (λ inst. inst.name.id) (slice_get insts place)) []

-- the scope of libraries
abbrev pub lib_ids : List Lib → List (List ℕ)
lib_ids libs = map (λ lib. lib.head.name.id) libs

-- the scope of the cells of a library
abbrev pub cell_ids : List Lib → ℕ → List (List ℕ)
cell_ids libs place = unwrap_or (option_map (λ lib. map (λ cell. cell.name.id) lib.cells) (slice_get libs place)) []

-- the scope of instances
abbrev pub inst_ids : List Inst → List (List ℕ)
inst_ids insts = map (λ inst. inst.name.id) insts

-- the scope of ports
abbrev pub port_ids : List Port → List (List ℕ)
port_ids ports = map (λ port. port.name.id) ports
