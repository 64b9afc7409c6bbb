-- What each call on a shared database answers, and what it leaves of the pass that made it.
use Rattle.std.specs.Prelude.{◌≡◌, ◌<◌, ℕ, List, [], ◌∷◌, ◌++◌, Result, Ok, Err, Some, length, slice_get}
use Rattle.std.specs.List.{All}
use mathlib.Core.List.{IsPrefix}
use Rattle.netlist_schema.specs.Design.{Design}
use Rattle.edit_tx.specs.Facts.{PinFacts, TxFacts}
use Rattle.db_spec.specs.declared.event.Call.{Call}
use Rattle.db_spec.specs.declared.event.Call.TheVariants.{Pin, PinAt, Release, Collect}
use Rattle.db_spec.specs.declared.event.Answer.{Answer}
use Rattle.db_spec.specs.declared.event.Answer.TheVariants.{Pinned, NoVersion, Gone, Released, Collected, Committed, Conflict}
use Rattle.db_spec.specs.declared.event.Event.{Event}
use Rattle.db_spec.specs.Answers.{Admits, HasRoom}
use Rattle.turn_cell.specs.Seats.{AgreeWith, HasEachSeat}
use Rattle.db_core.specs.declared.errors.PinError.{PinError}
use Rattle.db_core.specs.declared.errors.PinError.TheVariants.{LogFull as PinFull, NoMemory as PinNoMemory}
use Rattle.db_core.specs.declared.errors.PinAtError.{PinAtError}
use Rattle.db_core.specs.declared.errors.PinAtError.TheVariants.{LogFull as PinAtFull, NoVersion as NoSuchVersion, Gone as IsGone, NoMemory as PinAtNoMemory}
use Rattle.db_core.specs.declared.errors.CollectError.{CollectError}
use Rattle.db_core.specs.declared.errors.CollectError.TheVariants.{LogFull as CollectFull, NoMemory as CollectNoMemory}
use Rattle.db_core.specs.declared.errors.CommitError.{CommitError}
use Rattle.db_core.specs.declared.errors.CommitError.TheVariants.{LogFull as CommitFull, Conflict as Conflicted, NoMemory as CommitNoMemory}
use Rattle.db_core.specs.Calls.{commit_of, event_of}
use Rattle.db_core.specs.Story.{Story, IsHistory, state}
use Rattle.db_share.specs.Passes.{Shared, Pass, IsReady, HasPin, known, maker, new_pass, story}

-- after a call the pass is ready for the next one, has its number, and has seen what it saw before, and maybe more
pub record GoesOn (db : Shared) (old new : Pass) : Type 0 where
  pub ready : IsReady db new
  pub number : new.number ≡ old.number
  pub seen : IsPrefix old.seen new.seen

-- after some calls the pass is ready for the next one, and has its number
abbrev pub Stays : Shared → Pass → Pass → Type 0
Stays db old new = IsReady db new × (new.number ≡ old.number)

-- the call is no event: at its turn the pass saw the log, and left it as it was
pub record Looks (db : Shared) (old new : Pass) : Type 0 where
  pub on : GoesOn db old new
  pub own : new.own ≡ old.own

-- the call is an event: at its turn the log began with what the pass had seen, and this is the history's answer to the call there; the
-- event is now the last one of the log, which the pass has seen whole, and one more of the pass's own
pub record Makes (db : Shared) (old new : Pass) (call : Call) (answer : Answer) : Type 0 where
  pub on : GoesOn db old new
  pub log : List Event
  pub before : IsPrefix old.seen log
  pub admits : Admits (state (story db log)) (event_of old.number call answer)
  pub seen : new.seen ≡ log ++ event_of old.number call answer ∷ []
  pub own : new.own ≡ old.own ++ event_of old.number call answer ∷ []

-- the call made a pin, which is the pass's and live, with the design of its version
pub record Pins (db : Shared) (old new : Pass) (call : Call) (pin : PinFacts) : Type 0 where
  pub makes : Makes db old new call (Pinned pin.number pin.version)
  pub has : HasPin db new pin

-- no event, since at its turn the log had no room for the call
pub record LacksRoom (db : Shared) (old new : Pass) (call : Call) : Type 0 where
  pub looks : Looks db old new
  pub full : ¬ HasRoom (known db new) call

-- no event, for want of memory: the log had room for the call
pub record LacksMemory (db : Shared) (old new : Pass) (call : Call) : Type 0 where
  pub looks : Looks db old new
  pub room : HasRoom (known db new) call

-- ---- the calls, by their results

-- a pin of the last version
abbrev pub HasPinned : Shared → Pass → Pass → Result PinFacts PinError → Type 0
HasPinned db old new (Ok pin) = Pins db old new Pin pin
HasPinned db old new (Err PinFull) = LacksRoom db old new Pin
HasPinned db old new (Err PinNoMemory) = LacksMemory db old new Pin

-- a pin of a wanted version: that it is not there, or no longer, is an event
abbrev pub HasPinnedAt : Shared → Pass → Pass → ℕ → Result PinFacts PinAtError → Type 0
HasPinnedAt db old new wanted (Ok pin) = Pins db old new (PinAt wanted) pin
HasPinnedAt db old new wanted (Err (NoSuchVersion last)) = Makes db old new (PinAt wanted) (NoVersion last)
HasPinnedAt db old new wanted (Err (IsGone least)) = Makes db old new (PinAt wanted) (Gone least)
HasPinnedAt db old new wanted (Err PinAtFull) = LacksRoom db old new (PinAt wanted)
HasPinnedAt db old new wanted (Err PinAtNoMemory) = LacksMemory db old new (PinAt wanted)

-- a release, which is never refused
abbrev pub HasReleased : Shared → Pass → Pass → PinFacts → Type 0
HasReleased db old new pin = Makes db old new (Release pin.number) Released

-- a collect, by how many versions it dropped
abbrev pub HasCollected : Shared → Pass → Pass → Result ℕ CollectError → Type 0
HasCollected db old new (Ok dropped) = Makes db old new Collect (Collected dropped)
HasCollected db old new (Err CollectFull) = LacksRoom db old new Collect
HasCollected db old new (Err CollectNoMemory) = LacksMemory db old new Collect

-- a refused commit: a conflict is an event
abbrev pub IsRefused : Shared → Pass → Pass → TxFacts → CommitError → Type 0
IsRefused db old new tx (Conflicted object version) = Makes db old new (commit_of tx) (Conflict object version)
IsRefused db old new tx CommitFull = LacksRoom db old new (commit_of tx)
IsRefused db old new tx CommitNoMemory = LacksMemory db old new (commit_of tx)

-- a commit, by the number of the version that it made: its replies are the transaction's, and the pin comes back, which is still live;
-- where it is refused, the transaction comes back as it was
abbrev pub HasCommitted : Shared → Pass → Pass → TxFacts → Result (ℕ × PinFacts) (CommitError × TxFacts) → Type 0
HasCommitted db old new tx (Ok done) = Makes db old new (commit_of tx) (Committed done.0 tx.replies) × (done.1 ≡ tx.pin) × HasPin db new tx.pin
HasCommitted db old new tx (Err refused) = IsRefused db old new tx refused.0 × (refused.1 ≡ tx)

-- ---- the beginning and the end

-- a new database of the design for so many callers, and its passes, in the order of their numbers from 0
pub record Opens (design : Design) (callers : ℕ) (db : Shared) (passes : List Pass) : Type 0 where
  pub base : db.base ≡ design
  pub seats : db.seats ≡ callers
  pub many : length passes ≡ callers
  pub each : (k : ℕ) → k < callers → slice_get passes k ≡ Some (new_pass db k)
  pub ready : All (IsReady db) passes
  pub all : HasEachSeat db.seats passes

-- what is left of a database that is closed with all its passes: its log is a history of the opening design; what each pass has seen is
-- a beginning of it, and the pass's own events are just those of its number in it; no event has another number
pub record Closes (db : Shared) (passes : List Pass) (core : Story) : Type 0 where
  pub opening : core.opening ≡ db.base
  pub history : IsHistory core
  pub each : All (λ p. AgreeWith maker core.events p.number p.seen p.own) passes
  pub others : All (λ event. event.caller < db.seats) core.events
