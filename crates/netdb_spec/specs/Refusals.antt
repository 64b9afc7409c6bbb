-- Why a file is refused.
use Rattle.std.specs.Prelude.{◌≡◌, ◌⊎◌, ◌+◌, ◌≤◌, ℕ, List, [], ◌∷◌, length, Option}
use Rattle.netlist_schema.specs.declared.limits.TheConstants.{MOST_FILE_BYTES}
use Rattle.netdb_outside.specs.Outside.{Folder}
use Rattle.script_spec.specs.declared.script.Step.{Step}
use Rattle.edif_spec.specs.Files.{IsWrong}
use Rattle.edif_spec.specs.declared.file_fault.EdifFault.{EdifFault}
use Rattle.netdb_spec.specs.Told.{IsBadScript, IsFile, IsLarge, IsMissing, IsReadThrough, IsScriptFile}
use Rattle.netdb_spec.specs.declared.limits.TheConstants.{MOST_REPORT_BYTES}
use Rattle.script_spec.specs.declared.limits.TheConstants.{MOST_SCRIPT_BYTES}
use Rattle.netdb_spec.specs.declared.status.Status.{Status}
use Rattle.netdb_spec.specs.declared.status.Status.TheVariants as status

-- as many bytes as a design file may have, of which this is wrong
abbrev pub IsBad : EdifFault → List ℕ → Type 0
IsBad fault bytes = (length bytes ≤ MOST_FILE_BYTES) × IsWrong bytes fault

-- Why a file of this name, which is this word, was not read within its limit: there is none; a fault; or it has too many bytes, and was
-- read to one past the limit. Want of memory has no cause.
abbrev pub RefusesFile : Option Folder → List ℕ → ℕ → ℕ → Status → Type 0
RefusesFile told name at limit (status.Missing word) = (word ≡ at) × IsMissing told name
RefusesFile told name at limit (status.ReadFault word) = word ≡ at
RefusesFile told name at limit (status.TooLarge word) = (word ≡ at) × IsFile told name (IsLarge limit) × IsReadThrough told name limit
RefusesFile told name at limit status.NoMemory = Unit {0}
RefusesFile told name at limit _ = ⊥

-- why no design was read from the file of this name, which is the word behind the command: it was not read; or this is wrong with its bytes
abbrev pub RefusesDesign : Option Folder → List ℕ → Status → Type 0
RefusesDesign told name (status.BadEdif fault) = IsFile told name (IsBad fault) × IsReadThrough told name MOST_FILE_BYTES
RefusesDesign told name result = RefusesFile told name 1 MOST_FILE_BYTES result

-- why no script was read from the file of this name, which is this word: it was not read; or this is its first bad line
abbrev pub RefusesScript : Option Folder → List ℕ → ℕ → Status → Type 0
RefusesScript told name at (status.BadScript word line) = (word ≡ at) × IsFile told name (IsBadScript line) × IsReadThrough told name MOST_SCRIPT_BYTES
RefusesScript told name at result = RefusesFile told name at MOST_SCRIPT_BYTES result

-- why not all of the scripts were read from the files of these names, the first of which is this word: the first file is refused, or a
-- script was read from it, and one behind it is refused
abbrev pub RefusesScripts : Option Folder → List (List ℕ) → ℕ → Status → Type 0
RefusesScripts told [] at result = ⊥
RefusesScripts told (name ∷ names) at result =
    RefusesScript told name at result
    ⊎ ((steps : List Step) × IsFile told name (λ bytes. IsScriptFile bytes steps) × RefusesScripts told names (at + 1) result)

-- why the report of the file of this name, which is the second word behind the command, was not read
abbrev pub RefusesReport : Option Folder → List ℕ → Status → Type 0
RefusesReport told name result = RefusesFile told name 2 MOST_REPORT_BYTES result
