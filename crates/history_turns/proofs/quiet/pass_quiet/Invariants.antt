use Rattle.std.proofs.Common.{◌≤◌, ℕ, drop}
use Rattle.db_spec.specs.History.{Legal}
use Rattle.db_core.specs.Story.{Story}
use Rattle.script_spec.specs.ScriptText.{steps_of}
use Rattle.history_turns.specs.Moves.{Passes}
use Rattle.history_turns.specs.Seats.{HasPinnedTop, IsAt, phase_of}
use Rattle.history_turns.proofs.quiet.pass_quiet.Given as goal

-- the lines so far were passed over
abbrev pub invariant-loop-line : goal.invariant-loop-line
invariant-loop-line l = record {
  passes : (story : Story) (caller : ℕ) → Legal story.opening story.events → IsAt story caller l.fn.at
      → Passes story (phase_of l.fn.at) (drop l.fn.first (steps_of l.lines)) l.fn.said.items l.said.items (phase_of l.now) (drop l.line (steps_of l.lines));
  pin : (story : Story) (caller : ℕ) → IsAt story caller l.fn.at → IsAt story caller l.now;
  top : HasPinnedTop l.fn.at → HasPinnedTop l.now;
  from : l.fn.first ≤ l.line;
}
