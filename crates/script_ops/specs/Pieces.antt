-- The parts of words that have several.
use Rattle.std.specs.Prelude.{ℕ, List, [], ◌∷◌}
use Rattle.edit_spec.specs.declared.ops.PortDecl.{PortDecl}
use Rattle.netlist_schema.specs.Ident.{IsIdentifier}
use Rattle.script_spec.specs.Lines.{direction_word, width_atoms}
use Rattle.script_spec.specs.Pieces.{Atom, Said, Named}

-- each is an identifier
abbrev pub AreNames : List (List ℕ) → Type 0
AreNames [] = Unit {0}
AreNames (word ∷ words) = IsIdentifier word × AreNames words

-- the parts of a port
abbrev pub port_atoms : PortDecl → List Atom
port_atoms decl = Named decl.name ∷ Said (direction_word decl.direction) ∷ width_atoms decl.array
