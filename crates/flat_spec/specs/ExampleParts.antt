-- Short forms for the parts of example designs.
use Rattle.std.specs.Prelude.{ℕ, List, [], Option, Some, None, false, codes}
use Rattle.netlist_schema.specs.Types.{CellBody, CellId, Contents, Direction, End, Inst, Lib, Name, Net, Port, Property, TopHead}
use Rattle.netlist_schema.specs.declared.cell.CellKind.TheVariants.{Generic}
use Rattle.netlist_schema.specs.declared.property.Value.TheVariants.{Text}
use Rattle.flat_spec.specs.Paths.{own, on}

-- a name with no rename
abbrev pub named : List ℕ → Name
named id = record { id = id; shown = None }

-- a name with the text of a rename
abbrev pub renamed : List ℕ → List ℕ → Name
renamed id text = record { id = id; shown = Some text }

-- the cell at this place of this library
abbrev pub id_of : ℕ → ℕ → CellId
id_of lib slot = record { lib = record { 0 = lib }; slot = slot }

-- a port of one bit
abbrev pub scalar : List ℕ → Direction → Port
scalar name direction =
    record { name = named name; array = None; direction = Some direction; designator = None; properties = [] }

-- a port of this many bits
abbrev pub array : Name → ℕ → Direction → Port
array name width direction =
    record { name = name; array = Some width; direction = Some direction; designator = None; properties = [] }

-- a bit of a port of the cell itself
abbrev pub own_bit : ℕ → ℕ → End
own_bit port bit = own (record { port = port; bit = bit })

-- the only bit of a scalar port of the cell itself
abbrev pub own_port : ℕ → End
own_port port = own_bit port 0

-- the only bit of a scalar port of an instance
abbrev pub on_port : ℕ → ℕ → End
on_port inst port = on inst (record { port = port; bit = 0 })

-- an instance of the cell
abbrev pub inst_named : Name → CellId → List Property → Inst
inst_named name of properties = record { name = name; of = of; designator = None; properties = properties }

-- the same with a name that has no rename
abbrev pub inst : List ℕ → CellId → List Property → Inst
inst name of properties = inst_named (named name) of properties

-- a net that joins these ends
abbrev pub net_named : Name → List End → Net
net_named name ends = record { name = name; ends = ends; properties = [] }

-- the same with a name that has no rename
abbrev pub net : List ℕ → List End → Net
net name ends = net_named (named name) ends

-- the property of this key whose value is a text
abbrev pub says : List ℕ → List ℕ → Property
says key value = record { key = named key; value = Text value; owner = None }

-- a cell with nothing but a name, ports and contents
abbrev pub cell : List ℕ → List Port → Option Contents → CellBody
cell name ports contents = record {
  name = named name;
  kind = Generic;
  properties = [];
  view = named (codes "v");
  view_properties = [];
  interface_properties = [];
  ports = ports;
  contents = contents;
}

-- a cell without contents
abbrev pub leaf : List ℕ → List Port → CellBody
leaf name ports = cell name ports None

-- a cell with these instances and nets
abbrev pub body : List ℕ → List Port → List Inst → List Net → CellBody
body name ports insts nets = cell name ports (Some (record { insts = insts; nets = nets }))

-- a library of these cells
abbrev pub lib : List ℕ → List CellBody → Lib
lib name cells = record { head = record { name = named name; external = false }; cells = cells }

-- the top is this cell
abbrev pub top : List ℕ → CellId → List Property → Option TopHead
top name of properties = Some (record { name = named name; cell = of; properties = properties })
