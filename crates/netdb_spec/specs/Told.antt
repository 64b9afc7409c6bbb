-- What told files say of a file. Where files are not told, nothing is said.
use Rattle.std.specs.Prelude.{◌≡◌, ◌+◌, ◌≤◌, ◌<◌, ℕ, List, [], ◌∷◌, ◌++◌, drop, length, Option, None, IfSome, IsSomeAnd}
use Rattle.netlist_schema.specs.Design.{Design}
use Rattle.netlist_schema.specs.Valid.{IsValid}
use Rattle.netdb_outside.specs.Outside.{Folder, file_named}
use Rattle.edif_spec.specs.Arranged.{canonical_text}
use Rattle.script_spec.specs.ScriptText.{Parts, IsScriptText, IsFirstBad, steps_of}
use Rattle.script_spec.specs.declared.script.Step.{Step}
use Rattle.edif_spec.specs.Files.{IsDesignFile, ReadsBack}
use Rattle.netdb_spec.specs.declared.limits.TheConstants.{MOST_REPORT_BYTES}
use Rattle.script_spec.specs.declared.limits.TheConstants.{MOST_SCRIPT_BYTES}

-- there is no file of this name
abbrev pub IsMissing : Option Folder → List ℕ → Type 0
IsMissing told name = IfSome told (λ folder. file_named folder.files name ≡ None)

-- there is a file of this name, and its bytes are such
abbrev pub IsFile : Option Folder → List ℕ → (List ℕ → Type 0) → Type 0
IsFile told name P = IfSome told (λ folder. IsSomeAnd (file_named folder.files name) P)

-- the file of this name was read to its end, or to one byte past the limit, and no other file since
abbrev pub IsReadThrough : Option Folder → List ℕ → ℕ → Type 0
IsReadThrough told name limit = IfSome told (λ folder. IsSomeAnd (file_named folder.files name) (λ bytes. folder.rest ≡ drop (limit + 1) bytes))

-- more bytes than the limit
abbrev pub IsLarge : ℕ → List ℕ → Type 0
IsLarge limit bytes = limit < length bytes

-- ---- the design file

-- A design that was read from the file of this name: it is valid, its text reads back as the design, and the file is a design file of it.
pub record IsRead (told : Option Folder) (name : List ℕ) (d : Design) : Type 0 where
  pub valid : IsValid d
  pub reads_back : ReadsBack (canonical_text d) d
  pub file : IsFile told name (λ bytes. IsDesignFile bytes d)

-- ---- the scripts

-- the bytes are the text of a script with these steps, as many as it may have
pub record IsScriptFile (bytes : List ℕ) (steps : List Step) : Type 0 where
  pub size : length bytes ≤ MOST_SCRIPT_BYTES
  pub script : Parts
  pub text : IsScriptText bytes script
  pub are : steps ≡ steps_of script.lines

-- as many bytes as a script may have, of which the first bad line is that of this number
abbrev pub IsBadScript : ℕ → List ℕ → Type 0
IsBadScript line bytes = (length bytes ≤ MOST_SCRIPT_BYTES) × IsFirstBad bytes line

-- scripts that were read from the files of these names, in order: each file is the text of its script
abbrev pub AreRead : Option Folder → List (List ℕ) → List (List Step) → Type 0
AreRead told [] [] = Unit {0}
AreRead told (name ∷ names) (steps ∷ scripts) = IsFile told name (λ bytes. IsScriptFile bytes steps) × AreRead told names scripts
AreRead told names scripts = ⊥

-- the last of these files was read to its end
abbrev pub IsLastRead : Option Folder → List (List ℕ) → Type 0
IsLastRead told names = (front : List (List ℕ)) (last : List ℕ) → names ≡ front ++ last ∷ [] → IsReadThrough told last MOST_SCRIPT_BYTES

-- ---- the report

-- the file of this name has just these bytes, as many as a report may have
abbrev pub IsReportFile : Option Folder → List ℕ → List ℕ → Type 0
IsReportFile told name report = (length report ≤ MOST_REPORT_BYTES) × IsFile told name (λ bytes. bytes ≡ report)
