-- The report of a run, and behind it the uses of the last version of its history.
use Rattle.std.specs.Prelude.{◌≡◌, ℕ, List, ◌++◌}
use Rattle.netlist_schema.specs.Design.{Design}
use Rattle.db_spec.specs.declared.event.Event.{Event}
use Rattle.script_spec.specs.declared.script.Step.{Step}
use Rattle.script_spec.specs.Report.{Prints}
use Rattle.script_run_spec.specs.Reports.{IsFullReport, IsReport}
use Rattle.used_spec.specs.HeadUses.{head_uses_text}

-- the report of a run in which each script ended by its last line, and behind it the uses of the last version of its history
pub record IsUses (d : Design) (scripts : List (List Step)) (text : List ℕ) : Type 0 where
  pub report : List ℕ
  pub told : IsReport d scripts report
  pub parts : text ≡ report ++ head_uses_text d told.report.history

-- the report of a run in which some script met a full log, and behind it the uses of the last version of its history
pub record IsFullUses (d : Design) (scripts : List (List Step)) (text : List ℕ) : Type 0 where
  pub report : List ℕ
  pub told : IsFullReport d scripts report
  pub parts : text ≡ report ++ head_uses_text d told.report.history

-- a front of the report of a history with the uses of its last version behind it
pub record IsUsesFront (d : Design) (scripts : List (List Step)) (text : List ℕ) : Type 0 where
  pub report : List ℕ
  pub rest : List ℕ
  pub history : List Event
  pub prints : Prints d scripts report history
  pub front : report ++ head_uses_text d history ≡ text ++ rest
