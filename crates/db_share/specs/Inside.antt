-- What a pass knows while it has the turn, and what a call does to the core in its turn.
use Rattle.std.specs.Prelude.{◌≡◌, ℕ, Bool, true, false, Some, Result, Ok, Err, MatchBool}
use Rattle.edit_tx.specs.Facts.{PinFacts, TxFacts}
use Rattle.turn_cell.specs.Seats.{HasTheTurn, AgreeWith, Adds, taken}
use Rattle.db_core.specs.declared.errors.PinAtError.{PinAtError}
use Rattle.db_core.specs.declared.errors.PinAtError.TheVariants.{LogFull as PinAtFull, NoVersion, Gone, NoMemory as PinAtNoMemory}
use Rattle.db_core.specs.declared.errors.CommitError.{CommitError}
use Rattle.db_core.specs.declared.errors.CommitError.TheVariants.{LogFull as CommitFull, Conflict, NoMemory as CommitNoMemory}
use Rattle.db_core.specs.Story.{Story, IsHistory}
use Rattle.db_share.specs.Passes.{Shared, Pass, maker, story}
use Rattle.db_share.specs.Calls.{GoesOn}

-- the pass has the turn of this database: the log that it took is a history of the opening design and begins with what the pass has seen, and the pass's own
-- events are those of its number in the log
pub record HasTurn (db : Shared) (pass : Pass) : Type 0 where
  pub turn : pass.turn ≡ db.id
  pub base : pass.base ≡ Some db.base
  pub has : HasTheTurn pass
  pub history : IsHistory (story db (taken pass))
  pub log : AgreeWith maker (taken pass) pass.number pass.seen pass.own

-- the pass took the turn, and is otherwise as before
pub record Enters (db : Shared) (old new : Pass) : Type 0 where
  pub turn : HasTurn db new
  pub number : new.number ≡ old.number
  pub seen : new.seen ≡ old.seen
  pub own : new.own ≡ old.own

-- the core has one event more, of this caller, or is the same
pub record Steps (caller : ℕ) (added : Bool) (old new : Story) : Type 0 where
  pub base : new.opening ≡ old.opening
  pub list : MatchBool added (Adds maker caller old.events new.events) (new.events ≡ old.events)

-- the pass gave the core back
pub record Leaves (db : Shared) (old new : Pass) (core : Story) : Type 0 where
  pub on : GoesOn db old new
  pub seen : new.seen ≡ core.events
  pub left : core ≡ story db new.seen

-- ---- whether a call was an event

abbrev pub is_pin_at_event : Result PinFacts PinAtError → Bool
is_pin_at_event (Ok pin) = true
is_pin_at_event (Err (NoVersion last)) = true
is_pin_at_event (Err (Gone least)) = true
is_pin_at_event (Err PinAtFull) = false
is_pin_at_event (Err PinAtNoMemory) = false

abbrev pub is_conflict : CommitError → Bool
is_conflict CommitFull = false
is_conflict (Conflict object w) = true
is_conflict CommitNoMemory = false

abbrev pub is_commit_event : Result (ℕ × PinFacts) (CommitError × TxFacts) → Bool
is_commit_event (Ok done) = true
is_commit_event (Err refused) = is_conflict refused.0
