-- Scripts that are run beside each other on one database.
use Rattle.std.specs.Prelude.{◌≡◌, ◌<◌, ℕ, Bool, List, length, map}
use Rattle.std.specs.List.{All}
use Rattle.netlist_schema.specs.Design.{Design}
use Rattle.script_spec.specs.declared.script.Step.{Step}
use Rattle.db_core.specs.Story.{Story, IsHistory}
use Rattle.script_run_spec.specs.Ended.{Ended, HaveEnded, met_full}

-- The scripts were run beside each other on a database of the design, each as the caller of its number. The history of the database is
-- legal and has no other callers; each script came to its end there, with one of these transcripts; and this says whether one met a full log.
pub record HaveRun (d : Design) (scripts : List (List Step)) (core : Story) (texts : List (List ℕ)) (log_full : Bool) : Type 0 where
  pub opening : core.opening ≡ d
  pub sound : IsHistory core
  pub callers : All (λ event. event.caller < length scripts) core.events
  pub ends : List Ended
  pub each : HaveEnded d core.events 0 scripts ends
  pub told : texts ≡ map (λ ended. ended.text) ends
  pub full : log_full ≡ met_full ends
