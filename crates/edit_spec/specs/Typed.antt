-- What holds of an operation by the types of its fields.
use Rattle.std.specs.Prelude.{IfSome}
use Rattle.std.specs.List.{All}
use Rattle.netlist_schema.specs.Ident.{IsIdentifier}
use Rattle.netlist_schema.specs.Typed.{IsTypedProperty}
use Rattle.netlist_schema.specs.Width.{IsWidth}
use Rattle.edit_spec.specs.declared.ops.Op.{Op}
use Rattle.edit_spec.specs.declared.ops.Op.TheVariants.{AddCell, AddNet, AddInst, SetProp, SetNote}
use Rattle.edit_spec.specs.declared.ops.PortDecl.{PortDecl}

-- the name of a new port is an identifier, and its width is a width
pub record IsTypedPortDecl (decl : PortDecl) : Type 0 where
  pub name : IsIdentifier decl.name
  pub array : IfSome decl.array IsWidth

-- what an operation puts into a design: names are identifiers, widths are widths, and properties are typed
abbrev pub IsTypedOp : Op → Type 0
IsTypedOp (AddCell cell leaf ports) = IsIdentifier cell.cell × All IsTypedPortDecl ports
IsTypedOp (AddNet cell net) = IsIdentifier net
IsTypedOp (AddInst cell inst of) = IsIdentifier inst
IsTypedOp (SetProp cell target property) = IsTypedProperty property
IsTypedOp (SetNote path property) = All IsIdentifier path × IsTypedProperty property
IsTypedOp op = Unit {0}
