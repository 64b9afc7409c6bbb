use Rattle.std.proofs.Common.{◌≡◌, ◌++◌, length}
use Rattle.edif_spelling_spec.specs.Strings.{is_escape, codes}
use Rattle.edif_lexer.proofs.strings.push_codes.Given as goal

abbrev pub invariant-loop-rest : goal.invariant-loop-rest
invariant-loop-rest l = record {
  fault : is_escape l.left ≡ is_escape l.escape;
  codes : l.text.items ++ codes l.left ≡ l.initial.text.items ++ codes l.escape;
}

abbrev pub decreases-loop-rest : goal.decreases-loop-rest
decreases-loop-rest l = length l.left
