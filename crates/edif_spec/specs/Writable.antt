-- Trees that can be written.
use Rattle.std.specs.Prelude.{FitsSigned}
use Rattle.std.specs.Int.{w64}
use Rattle.netlist_schema.specs.Ident.{IsIdentifier}
use Rattle.netlist_schema.specs.Typed.{IsBytes}
use Rattle.edif_spelling_spec.specs.Tree.{Bare, Trees, Form', Word', Integer', String', End, More}

-- its words are identifiers, its integers fit 64 bits, and its strings are of bytes
abbrev mutual
  pub IsWritable : Bare → Type 0
  IsWritable (Form' p ts) = AreWritable ts
  IsWritable (Word' p name) = IsIdentifier name
  IsWritable (Integer' p value) = FitsSigned w64 value
  IsWritable (String' p value) = IsBytes value

  pub AreWritable : Trees (Unit {0}) → Type 0
  AreWritable End = Unit {0}
  AreWritable (More t ts) = IsWritable t × AreWritable ts
