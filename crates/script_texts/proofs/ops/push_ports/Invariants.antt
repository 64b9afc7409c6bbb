use Rattle.std.proofs.Common.{◌≡◌, ◌++◌, drop, map}
use Rattle.edif_names.specs.Parts.{Grows}
use Rattle.script_spec.specs.Lines.{port_piece}
use Rattle.script_texts.specs.Parts.{behind_pieces}
use Rattle.script_texts.proofs.ops.push_ports.Given as goal

-- what was written and what is left to write make the whole
abbrev pub invariant-loop-port : goal.invariant-loop-port
invariant-loop-port l = record {
  whole : l.out.items ++ behind_pieces (map port_piece (drop l.port-index l.ports)) ≡ l.fn.out.items ++ behind_pieces (map port_piece l.ports);
  grows : Grows l.fn.out.items l.out.items;
}
