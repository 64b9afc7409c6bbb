-- What a call wrote, as far as its status says.
use Rattle.std.specs.Prelude.{◌≡◌, ◌⊎◌, ℕ, List, None, Option}
use Rattle.netlist_schema.specs.Design.{Design}
use Rattle.netdb_outside.specs.Outside.{Appends, AppendsFront}
use Rattle.script_spec.specs.Headline.{CanWalk, SomeWalks, WritesReportFront}
use Rattle.script_spec.specs.declared.script.Step.{Step}
use Rattle.gen_spec.specs.Summary.{IsSummaryOf}
use Rattle.script_run_spec.specs.Reports.{IsFullReport, IsReport, WritesSome}
use Rattle.used_spec.specs.UsesReports.{IsFullUses, IsUses, IsUsesFront}
use Rattle.netdb_spec.specs.declared.command.Wanted.{Wanted}
use Rattle.netdb_spec.specs.Output.{output, HasTop, LacksTop}
use Rattle.netdb_spec.specs.declared.status.Status.{Status}
use Rattle.netdb_spec.specs.declared.status.Status.TheVariants as status

-- a text was written, as far as the status says: whole; after a fault or want of memory a front of it
abbrev pub TextGives : List ℕ → Option (List ℕ) → Option (List ℕ) → Status → Type 0
TextGives text old new status.Ok = Appends old new text
TextGives text old new status.WriteFault = AppendsFront old new text
TextGives text old new status.NoMemory = AppendsFront old new text
TextGives text old new _ = ⊥

-- what is wanted of a design was written, unless the design has no top and one is wanted: then nothing was
abbrev pub OutputGives : Wanted → Design → Option (List ℕ) → Option (List ℕ) → Status → Type 0
OutputGives wanted d old new status.NoTop = LacksTop wanted d × (new ≡ old)
OutputGives wanted d old new result = HasTop wanted d × TextGives (output wanted d) old new result

-- The scripts were run on the design, and the report was written. Where one of them walks and the design has no top, none is run and
-- nothing is written. A full log is told where some script met one; then the whole report was written as well.
abbrev pub RunGives : Design → List (List Step) → Option (List ℕ) → Option (List ℕ) → Status → Type 0
RunGives d scripts old new status.Ok = CanWalk d scripts × WritesSome (IsReport d scripts) old new
RunGives d scripts old new status.LogFull = CanWalk d scripts × WritesSome (IsFullReport d scripts) old new
RunGives d scripts old new status.WriteFault = CanWalk d scripts × WritesSome (WritesReportFront d scripts) old new
RunGives d scripts old new status.NoMemory = CanWalk d scripts × ((new ≡ old) ⊎ WritesSome (WritesReportFront d scripts) old new)
RunGives d scripts old new status.NoTop = SomeWalks scripts × (d.top ≡ None) × (new ≡ old)
RunGives d scripts old new _ = ⊥

-- The same of a run whose report has the uses of the last version behind it.
abbrev pub UsesGive : Design → List (List Step) → Option (List ℕ) → Option (List ℕ) → Status → Type 0
UsesGive d scripts old new status.Ok = CanWalk d scripts × WritesSome (IsUses d scripts) old new
UsesGive d scripts old new status.LogFull = CanWalk d scripts × WritesSome (IsFullUses d scripts) old new
UsesGive d scripts old new status.WriteFault = CanWalk d scripts × WritesSome (IsUsesFront d scripts) old new
UsesGive d scripts old new status.NoMemory = CanWalk d scripts × ((new ≡ old) ⊎ WritesSome (IsUsesFront d scripts) old new)
UsesGive d scripts old new status.NoTop = SomeWalks scripts × (d.top ≡ None) × (new ≡ old)
UsesGive d scripts old new _ = ⊥

-- the summary of a generated run was written; or there was no memory for it, and nothing was
abbrev pub SummaryGives : ℕ → Option (List ℕ) → Option (List ℕ) → Status → Type 0
SummaryGives n old new result =
    ((result ≡ status.NoMemory) × (new ≡ old))
    ⊎ ((text : List ℕ) × IsSummaryOf n text × TextGives text old new result)
