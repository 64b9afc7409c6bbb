use Rattle.std.proofs.Common.{◌≡◌, List, ℕ, length}
use Rattle.script_run_spec.specs.Scripts.{all_steps}
use Rattle.history_check.specs.Follow.{AllStand, IsBehind, IsRestOf}
use Rattle.history_check.proofs.replay.replay.Given as goal

-- the events so far were made again and are printed, and each history that prints the report goes on with what is left of the text
abbrev pub invariant-events : goal.invariant-events
invariant-events l = record {
  stands : AllStand l.core (all_steps l.scripts) l.seats.items;
  opening : l.core.opening ≡ l.fn.core.opening;
  rest : (report : List ℕ) → IsRestOf l.fn.core (all_steps l.scripts) report l.fn.text → IsRestOf l.core (all_steps l.scripts) report l.rest;
  behind : (report : List ℕ) → IsBehind l.fn.core report l.fn.text → IsBehind l.core report l.rest;
}

abbrev pub decreases-events : goal.decreases-events
decreases-events l = length l.rest
