-- Where files are told: which status they ask for, unless a fault or want of memory comes in its place.
use Rattle.std.specs.Prelude.{◌≡◌, ◌⊎◌, ◌+◌, ◌≤◌, ℕ, List, [], ◌∷◌, ◌++◌, length, Option, None, IfSome, MatchOption}
use Rattle.netlist_schema.specs.Design.{Design}
use Rattle.netlist_schema.specs.declared.limits.TheConstants.{MOST_FILE_BYTES}
use Rattle.netdb_outside.specs.Outside.{Folder, file_named}
use Rattle.script_spec.specs.Headline.{CanWalk, HaveRoom, SomeWalks}
use Rattle.script_spec.specs.declared.script.Step.{Step}
use Rattle.edif_spec.specs.Files.{IsDesignFile, IsNoDesignFile}
use Rattle.netdb_spec.specs.Command.{Request, Show, Run, Generate, Uses, Check}
use Rattle.netdb_spec.specs.Output.{HasTop, LacksTop}
use Rattle.netdb_spec.specs.Told.{IsBadScript, IsLarge, IsScriptFile}
use Rattle.netdb_spec.specs.declared.limits.TheConstants.{MOST_REPORT_BYTES}
use Rattle.script_spec.specs.declared.limits.TheConstants.{MOST_SCRIPT_BYTES}
use Rattle.netdb_spec.specs.declared.command.Wanted.{Wanted}
use Rattle.netdb_spec.specs.declared.status.Status.{Status}
use Rattle.netdb_spec.specs.declared.status.Status.TheVariants as status

-- a fault in reading, or want of memory
abbrev pub IsExcuse : Status → Type 0
IsExcuse (status.ReadFault word) = Unit {0}
IsExcuse status.NoMemory = Unit {0}
IsExcuse _ = ⊥

-- the status comes, or an excuse
abbrev pub Comes : Status → Status → Type 0
Comes wanted result = (result ≡ wanted) ⊎ IsExcuse result

-- all is well: then only a fault in writing comes besides
abbrev pub IsServed : Status → Type 0
IsServed result = (result ≡ status.WriteFault) ⊎ Comes status.Ok result

-- something is wrong with a design file
abbrev pub IsBadFile : Status → Type 0
IsBadFile (status.BadEdif fault) = Unit {0}
IsBadFile _ = ⊥

-- which status the design of a file asks for
pub record IsDueOf (wanted : Wanted) (d : Design) (result : Status) : Type 0 where
  pub no_top : LacksTop wanted d → Comes status.NoTop result
  pub served : HasTop wanted d → IsServed result

-- Which status the scripts ask for on the design: no top, where one of them walks and there is none; else the report is written, and
-- only where the scripts may want more places than a history has, the log may be full.
pub record IsDueOfRun (d : Design) (scripts : List (List Step)) (result : Status) : Type 0 where
  pub no_top : SomeWalks scripts → d.top ≡ None → Comes status.NoTop result
  pub served : CanWalk d scripts → HaveRoom scripts → IsServed result
  pub run : CanWalk d scripts → (result ≡ status.LogFull) ⊎ IsServed result

-- which status a check of a report asks for, by the scripts: no top, where one of them walks and there is none
pub record IsDueOfCheck (d : Design) (scripts : List (List Step)) (result : Status) : Type 0 where
  pub no_top : SomeWalks scripts → d.top ≡ None → Comes status.NoTop result
  pub served : CanWalk d scripts → IsServed result

-- Which status a file asks for, which is this word and was found or not: it is not there, it has more bytes than its limit, or its bytes
-- tell.
abbrev pub IsDueOfFile : Option (List ℕ) → ℕ → ℕ → (List ℕ → Type 0) → Status → Type 0
IsDueOfFile found word limit Within result = MatchOption found
    (Comes (status.Missing word) result)
    (λ bytes. (IsLarge limit bytes → Comes (status.TooLarge word) result) × (length bytes ≤ limit → Within bytes))

-- files by name with their bytes
abbrev pub Files : Type 0
Files = List (List ℕ × List ℕ)

-- which status a design file asks for: something is wrong with it, where it is none; else its design tells
abbrev pub IsDueOfDesign : Files → List ℕ → (Design → Type 0) → Status → Type 0
IsDueOfDesign files name Then result = IsDueOfFile (file_named files name) 1 MOST_FILE_BYTES
    (λ bytes. (IsNoDesignFile bytes → IsBadFile result ⊎ IsExcuse result) × ((d : Design) → IsDesignFile bytes d → Then d)) result

-- which status scripts ask for, the first of which is this word, behind scripts that were read: the first bad line of the first one, where
-- it is none; else those behind it tell, and at last all of them
abbrev pub AreDueOf : Files → (List (List Step) → Type 0) → List (List Step) → List (List ℕ) → ℕ → Status → Type 0
AreDueOf files Then before [] word result = Then before
AreDueOf files Then before (name ∷ names) word result = IsDueOfFile (file_named files name) word MOST_SCRIPT_BYTES
    (λ bytes. ((line : ℕ) → IsBadScript line bytes → Comes (status.BadScript word line) result)
    × ((steps : List Step) → IsScriptFile bytes steps → AreDueOf files Then (before ++ steps ∷ []) names (word + 1) result)) result

-- which status a report and scripts behind it ask for, on a design: it is not there, or too large; else the scripts tell
abbrev pub IsDueOfReport : Files → Design → List ℕ → List (List ℕ) → Status → Type 0
IsDueOfReport files d report names result = IsDueOfFile (file_named files report) 2 MOST_REPORT_BYTES
    (λ bytes. AreDueOf files (λ scripts. IsDueOfCheck d scripts result) [] names 3 result) result

-- which status a request asks for of files that are told
abbrev pub IsDueIn : Files → Request → Status → Type 0
IsDueIn files (Show name wanted) result = IsDueOfDesign files name (λ d. IsDueOf wanted d result) result
IsDueIn files (Run name names) result = IsDueOfDesign files name (λ d. AreDueOf files (λ scripts. IsDueOfRun d scripts result) [] names 2 result) result
IsDueIn files (Uses name names) result = IsDueOfDesign files name (λ d. AreDueOf files (λ scripts. IsDueOfRun d scripts result) [] names 2 result) result
IsDueIn files (Check name report names) result = IsDueOfDesign files name (λ d. IsDueOfReport files d report names result) result
IsDueIn files (Generate n) result = IsServed result

-- which status a request asks for; a generated run asks no file
abbrev pub IsDue : Option Folder → Request → Status → Type 0
IsDue told (Generate n) result = IsServed result
IsDue told request result = IfSome told (λ folder. IsDueIn folder.files request result)
