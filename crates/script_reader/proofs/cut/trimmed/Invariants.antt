use Rattle.std.proofs.Common.{◌≡◌, length}
use Rattle.script_spec.specs.ScriptText.{trimmed}
use Rattle.script_reader.proofs.cut.trimmed.Given as goal

-- what is left has the same bytes but blanks at its end
abbrev pub invariant-loop-last : goal.invariant-loop-last
invariant-loop-last l = trimmed l.left ≡ trimmed l.fn.bytes

abbrev pub decreases-loop-last : goal.decreases-loop-last
decreases-loop-last l = length l.left
