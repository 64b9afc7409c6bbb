-- What each call leaves of the history, by its result.
use Rattle.std.specs.Prelude.{◌≡◌, ℕ, [], ◌∷◌, ◌++◌, Result, Ok, Err}
use Rattle.edit_tx.specs.Facts.{PinFacts, TxFacts}
use Rattle.db_spec.specs.Answers.{Admits, HasRoom}
use Rattle.db_spec.specs.declared.event.Answer.{Answer}
use Rattle.db_spec.specs.declared.event.Answer.TheVariants.{Pinned, NoVersion as NoSuchVersion, Gone as IsGone, Released, Collected, Committed, Conflict as Conflicted}
use Rattle.db_spec.specs.declared.event.Call.{Call}
use Rattle.db_spec.specs.declared.event.Call.TheVariants.{Pin, PinAt, Release, Collect, Commit}
use Rattle.db_spec.specs.declared.event.Event.{Event}
use Rattle.db_core.specs.Story.{Story, IsPinOf, state}
use Rattle.db_core.specs.declared.errors.PinError.{PinError}
use Rattle.db_core.specs.declared.errors.PinError.TheVariants.{LogFull as PinFull, NoMemory as PinNoMemory}
use Rattle.db_core.specs.declared.errors.PinAtError.{PinAtError}
use Rattle.db_core.specs.declared.errors.PinAtError.TheVariants.{LogFull as PinAtFull, NoVersion, Gone, NoMemory as PinAtNoMemory}
use Rattle.db_core.specs.declared.errors.CollectError.{CollectError}
use Rattle.db_core.specs.declared.errors.CollectError.TheVariants.{LogFull as CollectFull, NoMemory as CollectNoMemory}
use Rattle.db_core.specs.declared.errors.CommitError.{CommitError}
use Rattle.db_core.specs.declared.errors.CommitError.TheVariants.{LogFull as CommitFull, Conflict, NoMemory as CommitNoMemory}

abbrev pub event_of : ℕ → Call → Answer → Event
event_of caller call answer = record { caller = caller; call = call; answer = answer }

-- the call was answered as the history wants it, and its event was added
pub record Adds (old new : Story) (event : Event) : Type 0 where
  pub opening : new.opening ≡ old.opening
  pub events : new.events ≡ old.events ++ event ∷ []
  pub admits : Admits (state old) event

-- the history has no room for the call, and nothing was changed
pub record LacksRoom (old new : Story) (call : Call) : Type 0 where
  pub same : new ≡ old
  pub full : ¬ HasRoom (state old) call

-- memory was refused to a call for which there is room, and nothing was changed
pub record LacksMemory (old new : Story) (call : Call) : Type 0 where
  pub same : new ≡ old
  pub room : HasRoom (state old) call

-- a call of the caller made this pin
pub record Pins (old new : Story) (caller : ℕ) (call : Call) (pin : PinFacts) : Type 0 where
  pub caller_is : pin.caller ≡ caller
  pub adds : Adds old new (event_of caller call (Pinned pin.number pin.version))
  pub is_pin : IsPinOf new pin

-- the last version is pinned
abbrev pub PinsHead : Story → Story → ℕ → Result PinFacts PinError → Type 0
PinsHead old new caller (Ok pin) = Pins old new caller Pin pin
PinsHead old new caller (Err PinFull) = LacksRoom old new Pin
PinsHead old new caller (Err PinNoMemory) = LacksMemory old new Pin

-- the wanted version is pinned; that there is no such version, or no longer, is an event
abbrev pub PinsAt : Story → Story → ℕ → ℕ → Result PinFacts PinAtError → Type 0
PinsAt old new caller wanted (Ok pin) = Pins old new caller (PinAt wanted) pin
PinsAt old new caller wanted (Err (NoVersion last)) = Adds old new (event_of caller (PinAt wanted) (NoSuchVersion last))
PinsAt old new caller wanted (Err (Gone least)) = Adds old new (event_of caller (PinAt wanted) (IsGone least))
PinsAt old new caller wanted (Err PinAtFull) = LacksRoom old new (PinAt wanted)
PinsAt old new caller wanted (Err PinAtNoMemory) = LacksMemory old new (PinAt wanted)

-- the pin is released
abbrev pub Releases : Story → Story → PinFacts → Type 0
Releases old new pin = Adds old new (event_of pin.caller (Release pin.number) Released)

-- so many versions are dropped
abbrev pub Collects : Story → Story → ℕ → Result ℕ CollectError → Type 0
Collects old new caller (Ok dropped) = Adds old new (event_of caller Collect (Collected dropped))
Collects old new caller (Err CollectFull) = LacksRoom old new Collect
Collects old new caller (Err CollectNoMemory) = LacksMemory old new Collect

-- the commit of a transaction, and the event of its answer
abbrev pub commit_of : TxFacts → Call
commit_of tx = Commit tx.pin.number tx.ops

abbrev pub commit_event : TxFacts → Answer → Event
commit_event tx answer = event_of tx.pin.caller (commit_of tx) answer

-- the transaction is accepted with the replies that it has, and its pin comes back
pub record Accepts (old new : Story) (tx : TxFacts) (version : ℕ) (pin : PinFacts) : Type 0 where
  pub pin_is : pin ≡ tx.pin
  pub adds : Adds old new (commit_event tx (Committed version tx.replies))

-- a refused commit: that it clashes is an event
abbrev pub IsRefused : Story → Story → TxFacts → CommitError → Type 0
IsRefused old new tx CommitFull = LacksRoom old new (commit_of tx)
IsRefused old new tx (Conflict object w) = Adds old new (commit_event tx (Conflicted object w))
IsRefused old new tx CommitNoMemory = LacksMemory old new (commit_of tx)

-- the transaction is accepted, or comes back as it was
abbrev pub Commits : Story → Story → TxFacts → Result (ℕ × PinFacts) (CommitError × TxFacts) → Type 0
Commits old new tx (Ok done) = Accepts old new tx done.0 done.1
Commits old new tx (Err refused) = (refused.1 ≡ tx) × IsRefused old new tx refused.0
