-- What holds of each value by its type: bytes are bytes, identifiers are identifiers, widths are widths, numbers fit.
use Rattle.std.specs.Prelude.{◌<◌, ℕ, List, IfSome, FitsSigned}
use Rattle.std.specs.Int.{w32, w64}
use Rattle.std.specs.List.{All}
use Rattle.netlist_schema.specs.Design.{Design, insts_of, nets_of}
use Rattle.netlist_schema.specs.Ident.{IsIdentifier}
use Rattle.netlist_schema.specs.Width.{IsWidth}
use Rattle.netlist_schema.specs.declared.cell.CellBody.{CellBody}
use Rattle.netlist_schema.specs.declared.cell.Contents.{Contents}
use Rattle.netlist_schema.specs.declared.cell.Inst.{Inst}
use Rattle.netlist_schema.specs.declared.cell.Net.{Net}
use Rattle.netlist_schema.specs.declared.cell.Port.{Port}
use Rattle.netlist_schema.specs.declared.library.Note.{Note}
use Rattle.netlist_schema.specs.declared.property.Name.{Name}
use Rattle.netlist_schema.specs.declared.property.Num.{Num}
use Rattle.netlist_schema.specs.declared.property.Num.TheVariants.{Int, Scaled}
use Rattle.netlist_schema.specs.declared.property.Property.{Property}
use Rattle.netlist_schema.specs.declared.property.Value.{Value}
use Rattle.netlist_schema.specs.declared.property.Value.TheVariants.{Boolean, Integer, Number, Text}

-- a list of bytes
abbrev pub IsBytes : List ℕ → Type 0
IsBytes bytes = All (λ b. b < 256) bytes

abbrev pub IsTypedNum : Num → Type 0
IsTypedNum (Int n) = FitsSigned w64 n
IsTypedNum (Scaled mantissa exponent) = FitsSigned w64 mantissa × FitsSigned w32 exponent

abbrev pub IsTypedValue : Value → Type 0
IsTypedValue (Boolean b) = Unit {0}
IsTypedValue (Integer n) = FitsSigned w64 n
IsTypedValue (Number n) = IsTypedNum n
IsTypedValue (Text bytes) = IsBytes bytes

pub record IsTypedName (name : Name) : Type 0 where
  pub id : IsIdentifier name.id
  pub shown : IfSome name.shown IsBytes

pub record IsTypedProperty (property : Property) : Type 0 where
  pub key : IsTypedName property.key
  pub value : IsTypedValue property.value
  pub owner : IfSome property.owner IsBytes

pub record IsTypedPort (port : Port) : Type 0 where
  pub name : IsTypedName port.name
  pub array : IfSome port.array IsWidth
  pub designator : IfSome port.designator IsBytes
  pub properties : All IsTypedProperty port.properties

pub record IsTypedInst (inst : Inst) : Type 0 where
  pub name : IsTypedName inst.name
  pub designator : IfSome inst.designator IsBytes
  pub properties : All IsTypedProperty inst.properties

pub record IsTypedNet (net : Net) : Type 0 where
  pub name : IsTypedName net.name
  pub properties : All IsTypedProperty net.properties

pub record IsTypedContents (contents : Contents) : Type 0 where
  pub insts : All IsTypedInst contents.insts
  pub nets : All IsTypedNet contents.nets

-- what holds of each cell by the types of its fields, but of what is inside
pub record IsTypedCellData (body : CellBody) : Type 0 where
  pub name : IsTypedName body.name
  pub properties : All IsTypedProperty body.properties
  pub view : IsTypedName body.view
  pub view_properties : All IsTypedProperty body.view_properties
  pub interface_properties : All IsTypedProperty body.interface_properties
  pub ports : All IsTypedPort body.ports

pub record IsTypedCell (body : CellBody) : Type 0 where
  pub name : IsTypedName body.name
  pub properties : All IsTypedProperty body.properties
  pub view : IsTypedName body.view
  pub view_properties : All IsTypedProperty body.view_properties
  pub interface_properties : All IsTypedProperty body.interface_properties
  pub ports : All IsTypedPort body.ports
  pub insts : All IsTypedInst (insts_of body)
  pub nets : All IsTypedNet (nets_of body)

pub record IsTypedNote (note : Note) : Type 0 where
  pub path : All IsIdentifier note.path
  pub property : IsTypedProperty note.property

pub record IsTyped (d : Design) : Type 0 where
  pub title : IsTypedName d.title
  pub libs : All (λ lib. IsTypedName lib.head.name) d.libs
  pub cells : All (λ lib. All IsTypedCell lib.cells) d.libs
  pub top : IfSome d.top (λ top. IsTypedName top.name × All IsTypedProperty top.properties)
  pub notes : All IsTypedNote d.notes
