-- What a call of the program answers, why, and what it wrote. A status of a file is told by two tables, in the order of the words:
-- why the file was refused (Refusals), and what was written behind the files that were read (Gives).
use Rattle.std.specs.Prelude.{◌≡◌, ◌⊎◌, ℕ, List, Option}
use Rattle.netlist_schema.specs.Design.{Design}
use Rattle.netlist_schema.specs.declared.limits.TheConstants.{MOST_FILE_BYTES}
use Rattle.netdb_outside.specs.Outside.{Folder}
use Rattle.script_spec.specs.declared.script.Step.{Step}
use Rattle.netdb_spec.specs.Command.{Request, Show, Run, Generate, Uses, Check}
use Rattle.netdb_spec.specs.Checked.{CheckGives}
use Rattle.netdb_spec.specs.Gives.{OutputGives, RunGives, SummaryGives, UsesGive}
use Rattle.netdb_spec.specs.Refusals.{RefusesDesign, RefusesReport, RefusesScripts}
use Rattle.netdb_spec.specs.Told.{AreRead, IsLastRead, IsRead, IsReadThrough, IsReportFile}
use Rattle.netdb_spec.specs.declared.status.Status.{Status}

-- Behind files that were read, of scripts in the files of these names, the first of which is this word: they were read in their order,
-- until one was refused, and nothing was written; or all were read, and then this was done with them.
abbrev pub ScriptsGive : List (List ℕ) → ℕ → (List (List Step) → Type 0) → Option Folder → Option (List ℕ) → Option (List ℕ) → Status → Type 0
ScriptsGive names at Done told old new result =
    (RefusesScripts told names at result × (new ≡ old))
    ⊎ ((scripts : List (List Step)) × AreRead told names scripts × IsLastRead told names × Done scripts)

-- behind a design that was read, of a run: the scripts were read and run, and the report written
abbrev pub ReadRunGives : Design → List (List ℕ) → Option Folder → Option (List ℕ) → Option (List ℕ) → Status → Type 0
ReadRunGives d names told old new result = ScriptsGive names 2 (λ scripts. RunGives d scripts old new result) told old new result

-- of a run whose report has the uses of the last version behind it
abbrev pub ReadUsesGive : Design → List (List ℕ) → Option Folder → Option (List ℕ) → Option (List ℕ) → Status → Type 0
ReadUsesGive d names told old new result = ScriptsGive names 2 (λ scripts. UsesGive d scripts old new result) told old new result

-- behind a design and a report that were read, of a check: the scripts were read, and the verdict written
abbrev pub ReadChecks : Design → List ℕ → List (List ℕ) → Option Folder → Option (List ℕ) → Option (List ℕ) → Status → Type 0
ReadChecks d report names told old new result = ScriptsGive names 3 (λ scripts. CheckGives d scripts report old new result) told old new result

-- behind a design that was read, of a check: the report was refused, and nothing was written; or it is there, within its limit, and it
-- was checked
abbrev pub ReportGives : Design → List ℕ → List (List ℕ) → Option Folder → Option (List ℕ) → Option (List ℕ) → Status → Type 0
ReportGives d name names told old new result =
    (RefusesReport told name result × (new ≡ old))
    ⊎ ((report : List ℕ) × IsReportFile told name report × ReadChecks d report names told old new result)

-- Why a request is answered by this status, and what it wrote, by what is told of the files and what had been written. Of a design, of a
-- run and of a check: the design file was refused, and nothing was written; or its design was read, and what is wanted of it was written,
-- or the scripts were read and run, or the report was checked.
abbrev pub Gives : Request → Option Folder → Option (List ℕ) → Option (List ℕ) → Status → Type 0
Gives (Show name wanted) told old new result =
    (RefusesDesign told name result × (new ≡ old))
    ⊎ ((d : Design) × IsRead told name d × IsReadThrough told name MOST_FILE_BYTES × OutputGives wanted d old new result)
Gives (Run name names) told old new result =
    (RefusesDesign told name result × (new ≡ old))
    ⊎ ((d : Design) × IsRead told name d × ReadRunGives d names told old new result)
Gives (Generate n) told old new result = SummaryGives n old new result
Gives (Uses name names) told old new result =
    (RefusesDesign told name result × (new ≡ old))
    ⊎ ((d : Design) × IsRead told name d × ReadUsesGive d names told old new result)
Gives (Check name report names) told old new result =
    (RefusesDesign told name result × (new ≡ old))
    ⊎ ((d : Design) × IsRead told name d × ReportGives d report names told old new result)
