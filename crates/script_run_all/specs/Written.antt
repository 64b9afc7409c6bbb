-- What is written of a run.
use Rattle.std.specs.Prelude.{◌≡◌, ◌⊎◌, ℕ, List, Option, Result, Ok, Err}
use Rattle.netlist_schema.specs.Design.{Design}
use Rattle.netdb_outside.specs.declared.write_error.WriteError.{WriteError}
use Rattle.netdb_outside.specs.declared.write_error.WriteError.TheVariants.{NoMemory, WriteFault}
use Rattle.script_spec.specs.declared.script.Step.{Step}
use Rattle.script_spec.specs.Headline.{WritesReportFront}
use Rattle.script_run_spec.specs.Reports.{IsFullReport, IsReport, WritesSome}
use Rattle.script_run_all.specs.declared.ended.RunEnd.{RunEnd}
use Rattle.script_run_all.specs.declared.ended.RunEnd.TheVariants.{Whole, LogFull}

-- what a run wrote, by how it ended: its report; after a fault in writing a front of its report; and after want of memory that or nothing
abbrev pub RunWrites : Design → List (List Step) → Option (List ℕ) → Option (List ℕ) → Result RunEnd WriteError → Type 0
RunWrites d scripts old new (Ok Whole) = WritesSome (IsReport d scripts) old new
RunWrites d scripts old new (Ok LogFull) = WritesSome (IsFullReport d scripts) old new
RunWrites d scripts old new (Err WriteFault) = WritesSome (WritesReportFront d scripts) old new
RunWrites d scripts old new (Err NoMemory) = (new ≡ old) ⊎ WritesSome (WritesReportFront d scripts) old new
