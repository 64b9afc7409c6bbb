-- Which files a command reads, in their order, and how far each was read when it ends.
use Rattle.std.specs.Prelude.{◌≡◌, ◌⊎◌, ◌+◌, ◌≤◌, ℕ, List, [], ◌∷◌, ◌++◌, Result, Ok, Err, map}
use Rattle.netlist_schema.specs.declared.limits.TheConstants.{MOST_FILE_BYTES}
use Rattle.netdb_outside.specs.Visits.{Visit, IsVisit, AtEnd, Absent, Broken, Going}
use Rattle.netdb_spec.specs.declared.limits.TheConstants.{MOST_REPORT_BYTES}
use Rattle.script_spec.specs.declared.limits.TheConstants.{MOST_SCRIPT_BYTES}
use Rattle.netdb_spec.specs.declared.status.Status.{Status}
use Rattle.netdb_spec.specs.declared.status.Status.TheVariants as status

-- a file that is to be read: its name, and at most how many bytes it may have
pub record Reading : Type 0 where
  pub name : List ℕ
  pub limit : ℕ

abbrev pub design_file : List ℕ → Reading
design_file name = record { name = name; limit = MOST_FILE_BYTES }

abbrev pub report_file : List ℕ → Reading
report_file name = record { name = name; limit = MOST_REPORT_BYTES }

abbrev pub script_file : List ℕ → Reading
script_file name = record { name = name; limit = MOST_SCRIPT_BYTES }

abbrev pub script_files : List (List ℕ) → List Reading
script_files names = map script_file names

-- the file was read to its end, within its limit
abbrev pub IsReadToEnd : Reading → Visit → Type 0
IsReadToEnd file visit = IsVisit file.name file.limit AtEnd visit

-- How far the file, which is this word, was read where the status is about it: not at all, since it is not there; to a call that failed; to
-- one byte past its limit; to its end, where something is wrong with it; or to where there was no memory.
abbrev pub StopsAt : Reading → ℕ → Status → Visit → Type 0
StopsAt file at (status.Missing word) visit = (word ≡ at) × (visit ≡ record { name = file.name; bytes = 0; reach = Absent })
StopsAt file at (status.ReadFault word) visit = (word ≡ at) × IsVisit file.name file.limit Broken visit
StopsAt file at (status.TooLarge word) visit = (word ≡ at) × (visit ≡ record { name = file.name; bytes = file.limit + 1; reach = Going })
StopsAt file at (status.BadEdif fault) visit = (at ≡ 1) × IsReadToEnd file visit
StopsAt file at (status.BadScript word line) visit = (word ≡ at) × IsReadToEnd file visit
StopsAt file at status.NoMemory visit = (visit.name ≡ file.name) × (visit.bytes ≤ file.limit + 1)
StopsAt file at _ visit = ⊥

-- how far a step read its file, which is this word: to its end where it has a value, else to where it stopped
abbrev pub FileReads : {A : Type 0} → Reading → ℕ → Result A Status → Visit → Type 0
FileReads file at (Ok x) visit = IsReadToEnd file visit
FileReads file at (Err result) visit = StopsAt file at result visit

-- all files were read to their ends, in their order
abbrev pub AreReadToEnd : List Reading → List Visit → Type 0
AreReadToEnd [] [] = Unit {0}
AreReadToEnd (file ∷ files) (visit ∷ visits) = IsReadToEnd file visit × AreReadToEnd files visits
AreReadToEnd files visits = ⊥

-- The files, the first of which is this word, were read to their ends in their order, up to the one at which that stopped; no other was
-- asked for. Where there was no memory it may have stopped between two of them.
abbrev pub AreReadUpTo : List Reading → ℕ → Status → List Visit → Type 0
AreReadUpTo files at result [] = result ≡ status.NoMemory
AreReadUpTo [] at result (visit ∷ visits) = ⊥
AreReadUpTo (file ∷ files) at result (visit ∷ visits) =
    (StopsAt file at result visit × (visits ≡ [])) ⊎ (IsReadToEnd file visit × AreReadUpTo files (at + 1) result visits)

-- how far a step read its files, the first of which is this word: all to their ends where it has a value, else up to where it stopped
abbrev pub StepReads : {A : Type 0} → List Reading → ℕ → Result A Status → List Visit → Type 0
StepReads files at (Ok x) visits = AreReadToEnd files visits
StepReads files at (Err result) visits = AreReadUpTo files at result visits

-- a status that is about no file
abbrev pub IsBehindFiles : Status → Type 0
IsBehindFiles status.Ok = Unit {0}
IsBehindFiles status.WriteFault = Unit {0}
IsBehindFiles status.NoTop = Unit {0}
IsBehindFiles status.LogFull = Unit {0}
IsBehindFiles status.NoMemory = Unit {0}
IsBehindFiles _ = ⊥

-- the files that a command reads, the first of which is this word: all to their ends, where the status is about none of them, else up to
-- the one that it is about
abbrev pub CommandReads : List Reading → ℕ → Status → List Visit → Type 0
CommandReads files at result visits = (IsBehindFiles result × AreReadToEnd files visits) ⊎ AreReadUpTo files at result visits

-- just these files were asked for in between
abbrev pub Adds : (List Visit → Type 0) → (List Visit → Type 0) → (List Visit → Type 0) → Type 0
Adds old new P = (before : List Visit) → old before → (visits : List Visit) × P visits × new (before ++ visits)
