-- What is written of a run and of the uses of its last version.
use Rattle.std.specs.Prelude.{◌≡◌, ◌⊎◌, ℕ, List, Option, Result, Ok, Err}
use Rattle.netlist_schema.specs.Design.{Design}
use Rattle.netdb_outside.specs.declared.write_error.WriteError.{WriteError}
use Rattle.netdb_outside.specs.declared.write_error.WriteError.TheVariants.{NoMemory, WriteFault}
use Rattle.script_spec.specs.declared.script.Step.{Step}
use Rattle.script_run_spec.specs.Reports.{WritesSome}
use Rattle.script_run_all.specs.declared.ended.RunEnd.{RunEnd}
use Rattle.script_run_all.specs.declared.ended.RunEnd.TheVariants.{Whole, LogFull}
use Rattle.used_spec.specs.UsesReports.{IsFullUses, IsUses, IsUsesFront}

-- what a run wrote, by how it ended: its report and the uses; after a fault in writing a front of both; and after want of memory that or
-- nothing
abbrev pub UsesWrite : Design → List (List Step) → Option (List ℕ) → Option (List ℕ) → Result RunEnd WriteError → Type 0
UsesWrite d scripts old new (Ok Whole) = WritesSome (IsUses d scripts) old new
UsesWrite d scripts old new (Ok LogFull) = WritesSome (IsFullUses d scripts) old new
UsesWrite d scripts old new (Err WriteFault) = WritesSome (IsUsesFront d scripts) old new
UsesWrite d scripts old new (Err NoMemory) = (new ≡ old) ⊎ WritesSome (IsUsesFront d scripts) old new
