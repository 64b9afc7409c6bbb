-- What is told of a run.
use Rattle.std.specs.Prelude.{◌≡◌, ℕ, List}
use Rattle.db_spec.specs.declared.event.Event.{Event}
use Rattle.gen_spec.specs.Calls.{IsGenerated}
use Rattle.gen_spec.specs.Summary.{summary_of}
use Rattle.gen_spec.specs.declared.summary.Summary.{Summary}

-- what is told is the summary of the run
pub record IsTold (n : ℕ) (summary : Summary) : Type 0 where
  pub history : List Event
  pub whole : IsGenerated n history
  pub told : summary ≡ summary_of n history
