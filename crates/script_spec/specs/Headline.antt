-- What a run of scripts on a design writes, as the program's contract is to say it.
use Rattle.std.specs.Prelude.{◌≡◌, ◌⊎◌, ◌≤◌, ℕ, ◌+◌, ◌*◌, List, [], ◌∷◌, ◌++◌, None, length, Bool, IsTrue, ◌↔◌}
use Rattle.std.specs.List.{All}
use Rattle.netlist_schema.specs.Design.{Design}
use Rattle.db_spec.specs.Answers.{HasPlaces, most_events}
use Rattle.db_spec.specs.History.{state_after}
use Rattle.db_spec.specs.State.{IsLive}
use Rattle.db_spec.specs.declared.event.Event.{Event}
use Rattle.script_spec.specs.declared.script.Step.{Step}
use Rattle.script_spec.specs.declared.script.Step.TheVariants.{Begin, Pin, PinAt, Walk, Collect}
use Rattle.script_spec.specs.ScriptText.{Parts, IsScriptText, steps_of}
use Rattle.script_spec.specs.Session.{Word, Ending, Whole, Full, Session}
use Rattle.script_spec.specs.Report.{Prints, SessionResult, transcript}
use Rattle.script_spec.specs.declared.limits.TheConstants.{MOST_SCRIPT_BYTES}

-- ---- the texts of the scripts

-- the texts are these scripts, each of at most 262,144 bytes
abbrev pub AreScripts : List (List ℕ) → List (List Step) → Type 0
AreScripts [] [] = Unit {0}
AreScripts (text ∷ texts) (steps ∷ scripts) = (length text ≤ MOST_SCRIPT_BYTES) × ((script : Parts) × IsScriptText text script × (steps ≡ steps_of script.lines)) × AreScripts texts scripts
AreScripts texts scripts = ⊥

-- a line that walks; a design without a top has none to walk
abbrev pub IsWalk : Step → Type 0
IsWalk (Walk limit) = Unit {0}
IsWalk step = ⊥

abbrev pub HasWalk : List Step → Type 0
HasWalk [] = ⊥
HasWalk (step ∷ steps) = IsWalk step ⊎ HasWalk steps

abbrev pub SomeWalks : List (List Step) → Type 0
SomeWalks [] = ⊥
SomeWalks (steps ∷ scripts) = HasWalk steps ⊎ SomeWalks scripts

-- no walk meets a design without a top
abbrev pub CanWalk : Design → List (List Step) → Type 0
CanWalk d scripts = SomeWalks scripts → (d.top ≡ None) → ⊥

-- ---- what was written

abbrev pub IsWhole : Ending → Type 0
IsWhole ending = ending ≡ Whole

-- The headline. What is written at the status for success is the report of one legal history whose callers are just the scripts:
-- each script fits the events of its caller there, in order and with no event left over, each walk is that of its pinned version,
-- each conflict is where a later commit wrote what was read, and the last lines are the canonical text of the last version. No
-- script met a full log.
pub record WritesReport (d : Design) (scripts : List (List Step)) (written : List ℕ) : Type 0 where
  pub history : List Event
  pub prints : Prints d scripts written history
  pub whole : All (λ came. IsWhole came.ending) prints.results

-- at the status for a full log the whole report is written, and some script met a full log
abbrev pub IsFull : Ending → Type 0
IsFull Whole = ⊥
IsFull (Full places) = Unit {0}

abbrev pub SomeFull : List SessionResult → Type 0
SomeFull [] = ⊥
SomeFull (came ∷ results) = IsFull came.ending ⊎ SomeFull results

pub record WritesFullReport (d : Design) (scripts : List (List Step)) (written : List ℕ) : Type 0 where
  pub history : List Event
  pub prints : Prints d scripts written history
  pub full : SomeFull prints.results

-- at a fault in writing, and where memory was wanted, a front of such a report is written
pub record WritesReportFront (d : Design) (scripts : List (List Step)) (written : List ℕ) : Type 0 where
  pub text : List ℕ
  pub rest : List ℕ
  pub history : List Event
  pub prints : Prints d scripts text history
  pub front : text ≡ written ++ rest

-- ---- one script as one caller

-- no pin of the caller is live
abbrev pub HoldsNone : Design → List Event → ℕ → Type 0
HoldsNone d history caller = (number : ℕ) (v : ℕ) → IsLive (state_after d history) number caller v → ⊥

-- where the session ended since the log was full, the history that was seen has not the places that were wanted
abbrev pub HasNoPlaces : Design → List Event → Ending → Type 0
HasNoPlaces d history Whole = Unit {0}
HasNoPlaces d history (Full places) = HasPlaces (state_after d history) places → ⊥

-- A script was run as a caller who had no events before, and this history was seen at the end: the caller's events are those of
-- its session there, the text is its transcript, and it says whether the log was full.
pub record Ran (d : Design) (history : List Event) (caller : ℕ) (steps : List Step) (text : List ℕ) (log_full : Bool) : Type 0 where
  pub said : List Word
  pub ending : Ending
  pub session : Session d history caller steps said ending
  pub transcribed : text ≡ transcript d history said
  pub full : IsTrue log_full ↔ IsFull ending
  pub no_places : HasNoPlaces d history ending
  pub released : HoldsNone d history caller

-- ---- completeness

-- The places of the history that a line may take: each run of a block three, for its pin, commit and release; a pin two; a collect one.
abbrev pub step_places : Step → ℕ
step_places (Begin retries) = 3 * (retries + 1)
step_places Pin = 2
step_places (PinAt version) = 2
step_places Collect = 1
step_places step = 0

abbrev pub script_places : List Step → ℕ
script_places [] = 0
script_places (step ∷ steps) = step_places step + script_places steps

abbrev pub all_places : List (List Step) → ℕ
all_places [] = 0
all_places (script ∷ scripts) = script_places script + all_places scripts

-- scripts that have room together, whatever comes of them
abbrev pub HaveRoom : List (List Step) → Type 0
HaveRoom scripts = all_places scripts ≤ most_events

-- The clause of completeness: in a report of scripts that have room together, no script met a full log. So the status is not that
-- for a full log.
abbrev pub RoomSuffices : Type 0
RoomSuffices = (d : Design) (scripts : List (List Step)) (text : List ℕ) (history : List Event)
    → HaveRoom scripts → (prints : Prints d scripts text history) → All (λ came. IsWhole came.ending) prints.results
