-- What a valid design is, by recursion on its lists.
use Rattle.std.specs.Prelude.{◌≡◌, ℕ, ◌<◌, List, [], ◌∷◌, length, Bool, true, not, ◌&&◌, Some, IsTrue, IfSome, IsSome, slice_get}
use Rattle.std.specs.List.{list_any, AllByRecursion}
use Rattle.netlist_schema.specs.Names.{cell_names}
use Rattle.netlist_schema.specs.Typed.{IsTypedProperty}
use Rattle.netlist_schema.specs.Valid.{IsValid, HasBit}
use Rattle.netlist_schema.specs.Width.{IsWidth}
use Rattle.edif_spec.specs.Canonical.{ports_of_end}
use Rattle.edif_spec.specs.Means.{equal}
use Rattle.edif_spec.specs.Design as design

-- the names of a scope differ byte for byte
abbrev pub distinct : List (List ℕ) → Bool
distinct [] = true
distinct (n ∷ ns) = not (list_any (equal n) ns) && distinct ns

-- the properties of one owner
abbrev pub ValidProperties : List design.Property → Type 0
ValidProperties ps = AllByRecursion IsTypedProperty ps

pub record ValidPort (p : design.Port) : Type 0 where
  pub array : IfSome p.array IsWidth
  pub properties : ValidProperties p.properties

-- an instance is of a cell of the design
pub record ValidInst (libs : List design.Lib) (i : design.Inst) : Type 0 where
  pub of : IsSome (design.cell_at libs i.of)
  pub properties : ValidProperties i.properties

-- an end is at a bit of the cell's own, or of an instance
pub record ValidEnd (libs : List design.Lib) (ports : List design.Port) (insts : List design.Inst) (e : design.End) : Type 0 where
  pub inst : IfSome e.inst (λ i. i < length insts)
  pub bit : HasBit (ports_of_end libs ports insts e.inst) e.port e.bit

pub record ValidNet (libs : List design.Lib) (ports : List design.Port) (insts : List design.Inst) (n : design.Net) : Type 0 where
  pub ends : AllByRecursion (ValidEnd libs ports insts) n.ends
  pub properties : ValidProperties n.properties

pub record ValidContents (libs : List design.Lib) (ports : List design.Port) (c : design.Contents) : Type 0 where
  pub insts : AllByRecursion (ValidInst libs) c.insts
  pub nets : AllByRecursion (ValidNet libs ports c.insts) c.nets
  pub inst_names : IsTrue (distinct (design.inst_ids c.insts))

pub record ValidCell (libs : List design.Lib) (c : design.CellBody) : Type 0 where
  pub properties : ValidProperties c.properties
  pub view_properties : ValidProperties c.view_properties
  pub interface_properties : ValidProperties c.interface_properties
  pub ports : AllByRecursion ValidPort c.ports
  pub port_names : IsTrue (distinct (design.port_ids c.ports))
  pub contents : IfSome c.contents (ValidContents libs c.ports)

pub record ValidLib (libs : List design.Lib) (l : design.Lib) : Type 0 where
  pub cells : AllByRecursion (ValidCell libs) l.cells
  pub cell_names : IsTrue (distinct (cell_names l.cells))

pub record ValidTop (libs : List design.Lib) (t : design.TopHead) : Type 0 where
  pub cell : IsSome (design.cell_at libs t.cell)
  pub properties : ValidProperties t.properties

-- a path goes by instances from a cell on
abbrev pub ValidPath : List design.Lib → design.CellId → List (List ℕ) → Type 0
ValidPath libs id [] = Unit {0}
ValidPath libs id (n ∷ ns) = (i : ℕ) × (x : design.Inst) × (slice_get (design.insts_at libs id) i ≡ Some x) × (n ≡ x.name.id) × ValidPath libs x.of ns

pub record ValidNote (libs : List design.Lib) (top : design.CellId) (n : design.Note) : Type 0 where
  pub some_step : 0 < length n.path
  pub path : ValidPath libs top n.path
  pub property : IsTypedProperty n.property

-- the top, and the notes below it
pub record ValidRoot (libs : List design.Lib) (notes : List design.Note) (t : design.TopHead) : Type 0 where
  pub top : ValidTop libs t
  pub noted : AllByRecursion (ValidNote libs t.cell) notes

pub record Valid (d : design.Design) : Type 0 where
  pub libs : AllByRecursion (ValidLib d.libs) d.libs
  pub lib_names : IsTrue (distinct (design.lib_ids d.libs))
  pub root : IfSome d.top (ValidRoot d.libs d.notes)
  pub valid : IsValid d
