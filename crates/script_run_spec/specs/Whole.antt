-- What running a script comes to where it is broken off. `Ran` of `script_spec` says what it comes to elsewhere.
use Rattle.std.specs.Prelude.{◌≡◌, ℕ, List, ◌++◌}
use Rattle.netlist_schema.specs.Design.{Design}
use Rattle.db_spec.specs.History.{version_at}
use Rattle.db_spec.specs.declared.event.Event.{Event}
use Rattle.script_spec.specs.Headline.{HoldsNone}
use Rattle.script_spec.specs.Session.{Ending, Exchange, Held, Nothing, Runs, Word, exchanges, last_release}
use Rattle.script_spec.specs.declared.script.Step.{Step}

-- A script was run as a caller who had no events before, and was broken off: the caller's calls are the first ones of some session
-- of the script, and then the release of a held pin; and no pin of the caller is live.
pub record IsBrokenOff (d : Design) (history : List Event) (caller : ℕ) (steps : List Step) : Type 0 where
  pub done : List Exchange
  pub rest : List Exchange
  pub said : List Word
  pub ending : Ending
  pub session : Runs (version_at d history) Nothing steps (done ++ rest) said ending
  pub held : Held
  pub made : exchanges caller history ≡ done ++ last_release held
  pub released : HoldsNone d history caller
