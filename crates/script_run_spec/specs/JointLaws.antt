-- What holds of scripts that were run beside each other.
use Rattle.std.specs.Prelude.{◌<◌, List, length, MatchBool}
use Rattle.std.specs.List.{All}
use Rattle.netlist_schema.specs.Design.{Design}
use Rattle.db_spec.specs.History.{Legal}
use Rattle.db_spec.specs.declared.event.Event.{Event}
use Rattle.script_spec.specs.declared.script.Step.{Step}
use Rattle.script_spec.specs.Headline.{IsWhole, SomeFull}
use Rattle.script_spec.specs.Report.{Prints}
use Rattle.script_run_spec.specs.Ended.{Ended, HaveEnded, ended_report, met_full}

-- What is written of the history and of the transcripts is the report of the scripts. Some script's session ended since the log was
-- full, where one met a full log, and else all ended by their last lines.
pub record IsReported (d : Design) (scripts : List (List Step)) (history : List Event) (ends : List Ended) : Type 0 where
  pub prints : Prints d scripts (ended_report d history ends) history
  pub endings : MatchBool (met_full ends) (SomeFull prints.results) (All (λ came. IsWhole came.ending) prints.results)

-- Scripts that ended at different times of one legal history, which has no other callers, have one report: each session and each
-- transcript stays as the history goes on, and no pin is left that could hold a place.
abbrev pub EndedIsPrinted : Type 0
EndedIsPrinted = (d : Design) (scripts : List (List Step)) (history : List Event) (ends : List Ended)
    → Legal d history → All (λ event. event.caller < length scripts) history → HaveEnded d history 0 scripts ends → IsReported d scripts history ends
