use Rattle.std.proofs.Common.{◌≡◌, take, true}
use Rattle.std.specs.List.{list_all}
use Rattle.edif_spelling_spec.specs.Bytes.{is_space}
use Rattle.edif_lexer.proofs.runs.few_blanks.Given as goal

abbrev pub invariant-loop-i : goal.invariant-loop-i
invariant-loop-i l = list_all is_space (take l.i l.bytes) ≡ true
