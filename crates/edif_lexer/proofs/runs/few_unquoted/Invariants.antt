use Rattle.std.proofs.Common.{◌≡◌, take, true}
use Rattle.edif_spelling_spec.specs.Bytes.{is_unquoted}
use Rattle.edif_lexer.proofs.runs.few_unquoted.Given as goal

abbrev pub invariant-loop-i : goal.invariant-loop-i
invariant-loop-i l = is_unquoted (take l.i l.bytes) ≡ true
