use Rattle.std.proofs.Common.{◌≡◌, ◌++◌, ◌+◌, ◌≤◌, length}
use Rattle.edif_spelling_spec.specs.Strings.{segments, value, escape_fault}
use Rattle.edif_lexer.proofs.strings.decode.Given as goal

abbrev pub invariant-loop-text : goal.invariant-loop-text
invariant-loop-text l = record {
  fault : escape_fault l.closed l.at (segments l.left) ≡ escape_fault l.closed 0 (segments l.body);
  value : l.text.items ++ value (segments l.left) ≡ value (segments l.body);
  count : l.at + length l.left ≤ length l.body;
}

abbrev pub decreases-loop-text : goal.decreases-loop-text
decreases-loop-text l = length l.left
