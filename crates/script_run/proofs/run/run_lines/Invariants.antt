use Rattle.std.proofs.Common.{drop}
use Rattle.script_spec.specs.ScriptText.{steps_of}
use Rattle.script_run.proofs.Whole.{IsAt}
use Rattle.script_run.proofs.run.run_lines.Given as goal

-- so far the script has come, and the lines from this place on are left
abbrev pub invariant-loop-at : goal.invariant-loop-at
invariant-loop-at g l = IsAt l.along.db.now l.fn.pass l.pass (steps_of l.along.lines.now) l.out.items l.held (steps_of (drop l.at l.along.lines.now))
