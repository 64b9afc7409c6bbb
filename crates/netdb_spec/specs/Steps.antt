-- What the steps of reading answer.
use Rattle.std.specs.Prelude.{◌≡◌, ℕ, List, Result, Ok, Err}
use Rattle.script_spec.specs.ScriptText.{IsFirstBad}
use Rattle.edif_spec.specs.Files.{IsWrong}
use Rattle.netdb_spec.specs.declared.status.Status.{Status}
use Rattle.netdb_spec.specs.declared.status.Status.TheVariants as status

-- the status so far: all is well where a step has a value
abbrev pub status_of : {A : Type 0} → Result A Status → Status
status_of (Ok x) = status.Ok
status_of (Err result) = result

-- why bytes gave no design
abbrev pub IsNoDesign : List ℕ → Status → Type 0
IsNoDesign bytes (status.BadEdif fault) = IsWrong bytes fault
IsNoDesign bytes status.NoMemory = Unit {0}
IsNoDesign bytes _ = ⊥

-- why a text, which is this word's, gave no script
abbrev pub IsNoScript : List ℕ → ℕ → Status → Type 0
IsNoScript bytes at (status.BadScript word line) = (word ≡ at) × IsFirstBad bytes line
IsNoScript bytes at status.NoMemory = Unit {0}
IsNoScript bytes at _ = ⊥
