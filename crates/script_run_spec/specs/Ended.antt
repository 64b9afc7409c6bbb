-- Scripts that were run beside each other, each as a caller of its own.
use Rattle.std.specs.Prelude.{◌≡◌, ℕ, ◌+◌, Bool, List, [], ◌∷◌, ◌++◌, map}
use Rattle.std.specs.List.{list_any}
use Rattle.netlist_schema.specs.Design.{Design}
use Rattle.db_spec.specs.declared.event.Event.{Event}
use Rattle.script_spec.specs.declared.script.Step.{Step}
use Rattle.script_spec.specs.Headline.{Ran}
use Rattle.script_spec.specs.Report.{head_design}
use Rattle.script_spec.specs.Session.{exchanges}
use Rattle.script_run_spec.specs.Written.{written_report}

-- what a script came to: the text of its transcript, and whether it met a full log
pub record Ended : Type 0 where
  pub text : List ℕ
  pub log_full : Bool

-- The script was run as this caller, and came to this at its end. What the history had then is a front of it, behind which the caller
-- has no event.
pub record HasEnded (d : Design) (history : List Event) (caller : ℕ) (steps : List Step) (ended : Ended) : Type 0 where
  pub seen : List Event
  pub later : List Event
  pub parts : history ≡ seen ++ later
  pub quiet : exchanges caller later ≡ []
  pub ran : Ran d seen caller steps ended.text ended.log_full

-- each of the scripts was so run, as the caller of its number, from this number on
abbrev pub HaveEnded : Design → List Event → ℕ → List (List Step) → List Ended → Type 0
HaveEnded d history caller [] [] = Unit {0}
HaveEnded d history caller (steps ∷ scripts) (ended ∷ ends) = HasEnded d history caller steps ended × HaveEnded d history (caller + 1) scripts ends
HaveEnded d history caller scripts ends = ⊥

-- some script met a full log
abbrev pub met_full : List Ended → Bool
met_full ends = list_any (λ ended. ended.log_full) ends

-- what is written of the history and of the transcripts
abbrev pub ended_report : Design → List Event → List Ended → List ℕ
ended_report d history ends = written_report (head_design d history) history (map (λ ended. ended.text) ends)
