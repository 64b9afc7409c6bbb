-- Which files a request reads, and what a request that reads none leaves as it was.
use Rattle.std.specs.Prelude.{◌≡◌, ℕ, List, [], ◌∷◌, Option}
use Rattle.netdb_outside.specs.Outside.{Folder}
use Rattle.netdb_spec.specs.Command.{Request, Show, Run, Generate, Uses, Check}
use Rattle.netdb_spec.specs.Visits.{Reading, design_file, report_file, script_files}

-- the files that a request reads, in the order of the words
abbrev pub files_of : Request → List Reading
files_of (Show name wanted) = design_file name ∷ []
files_of (Run name names) = design_file name ∷ script_files names
files_of (Generate n) = []
files_of (Uses name names) = design_file name ∷ script_files names
files_of (Check name report names) = design_file name ∷ report_file report ∷ script_files names

-- a generated run leaves what is told of the files, and the count of their faults
abbrev pub LeavesFiles : Request → Option Folder → Option Folder → ℕ → ℕ → Type 0
LeavesFiles (Generate n) told told' faults faults' = (told' ≡ told) × (faults' ≡ faults)
LeavesFiles request told told' faults faults' = Unit {0}
