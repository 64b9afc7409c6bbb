use Rattle.std.proofs.Common.{List, ◌++◌, drop, map}
use Rattle.edit_spec.specs.declared.ops.PortDecl.{PortDecl}
use Rattle.script_spec.specs.Lines.{port_piece}
use Rattle.script_spec.specs.Pieces.{SpellPieces}
use Rattle.script_words.specs.Reading.{lent}
use Rattle.script_ops.proofs.pieces.ports.Given as goal

-- what the words left spell, all spell behind the ports so far; and where all spell ports, so do those left
abbrev pub invariant-loop-word : goal.invariant-loop-word
invariant-loop-word l = record {
  make : (more : List PortDecl) → SpellPieces (lent (drop l.word-index l.words)) (map port_piece more) → SpellPieces (lent l.words) (map port_piece (l.decls.items ++ more));
  back : (decls : List PortDecl) → SpellPieces (lent l.words) (map port_piece decls) → (more : List PortDecl) × SpellPieces (lent (drop l.word-index l.words)) (map port_piece more);
}
