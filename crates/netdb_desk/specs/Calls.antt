-- What each call of a desk leaves, by its result. It is one call of the database by the caller that has the seat's number.
use Rattle.std.specs.Prelude.{◌≡◌, ◌<◌, ◌-◌, ℕ, List, [], length, replicate, set, slice_get, Option, None, Some, Result, Ok, Err}
use Rattle.netlist_schema.specs.Design.{Design}
use Rattle.netlist_pages.specs.declared.memory.NoMemory.{NoMemory}
use Rattle.edit_rules_spec.specs.declared.reply.Reply.{Reply}
use Rattle.edit_spec.specs.declared.ops.Op.{Op}
use Rattle.edit_tx.specs.Facts.{HasRun, PinFacts, TxFacts, started}
use Rattle.db_version.specs.Shot.{Shot}
use Rattle.db_spec.specs.declared.event.Call.{Call}
use Rattle.db_spec.specs.declared.event.Call.TheVariants.{Pin, PinAt}
use Rattle.db_core.specs.Calls.{Accepts, Collects, IsRefused, Pins, PinsAt, PinsHead, Releases}
use Rattle.db_core.specs.declared.errors.CollectError.{CollectError}
use Rattle.db_core.specs.declared.errors.CommitError.{CommitError}
use Rattle.db_core.specs.declared.errors.PinAtError.{PinAtError}
use Rattle.db_core.specs.declared.errors.PinError.{PinError}
use Rattle.netdb_desk.specs.declared.held.Held.{Held}
use Rattle.netdb_desk.specs.declared.held.Held.TheVariants.{Nothing, OnPin, InTx}
use Rattle.netdb_desk.specs.declared.held.WrongUse.{WrongUse}
use Rattle.netdb_desk.specs.declared.limits.TheConstants.{SEATS}
use Rattle.netdb_desk.specs.declared.line.LineError.{LineError}
use Rattle.netdb_desk.specs.Says.{ReadsLine}
use Rattle.netdb_desk.specs.Seats.{DeskFacts, held_at, with_seat}

-- ---- what a seat shows

-- the version of a pin, with its design
abbrev pub seen_at : PinFacts → Shot
seen_at pin = record { version = pin.version; design = pin.design }

-- the reply to the last operation of the transaction that is held
abbrev pub last_reply : Option Held → Option Reply
last_reply None = None
last_reply (Some Nothing) = None
last_reply (Some (OnPin pin)) = None
last_reply (Some (InTx tx)) = slice_get tx.replies (length tx.replies - 1)

-- ---- what fits a call

-- the seat is one, and holds nothing; it holds a pin with no transaction; it holds a transaction
abbrev pub IsFree : DeskFacts → ℕ → Type 0
IsFree d seat = held_at d seat ≡ Some Nothing

abbrev pub HasPin : DeskFacts → ℕ → Type 0
HasPin d seat = (pin : PinFacts) × (held_at d seat ≡ Some (OnPin pin))

abbrev pub HasTx : DeskFacts → ℕ → Type 0
HasTx d seat = (tx : TxFacts) × (held_at d seat ≡ Some (InTx tx))

-- what the call wants is not so, and nothing was changed
pub record IsWrong (old new : DeskFacts) (Fits : Type 0) : Type 0 where
  pub same : new ≡ old
  pub wrong : ¬ Fits

-- ---- pins

-- nothing is held yet, and no pin is given
abbrev pub IsOpened : Design → DeskFacts → Type 0
IsOpened opening d = (d.story ≡ record { opening = opening; events = [] }) × (d.seats ≡ replicate SEATS Nothing)

-- the call of the database made a pin on this version, which the free seat holds now
pub record SitsDown (old new : DeskFacts) (seat : ℕ) (call : Call) (version : ℕ) : Type 0 where
  pub free : IsFree old seat
  pub pin : PinFacts
  pub version_is : pin.version ≡ version
  pub pins : Pins old.story new.story seat call pin
  pub seats : new.seats ≡ set old.seats seat (OnPin pin)

-- the free seat holds nothing still
pub record StaysFree (old new : DeskFacts) (seat : ℕ) : Type 0 where
  pub free : IsFree old seat
  pub seats : new.seats ≡ old.seats

-- the last version is pinned for a free seat
abbrev pub PinsSeat : DeskFacts → DeskFacts → ℕ → Result (Result ℕ PinError) WrongUse → Type 0
PinsSeat old new seat (Ok (Ok version)) = SitsDown old new seat Pin version
PinsSeat old new seat (Ok (Err error)) = StaysFree old new seat × PinsHead old.story new.story seat (Err error)
PinsSeat old new seat (Err wrong) = IsWrong old new (IsFree old seat)

-- the wanted version is pinned for a free seat
abbrev pub PinsSeatAt : DeskFacts → DeskFacts → ℕ → ℕ → Result (Result ℕ PinAtError) WrongUse → Type 0
PinsSeatAt old new seat wanted (Ok (Ok version)) = SitsDown old new seat (PinAt wanted) version
PinsSeatAt old new seat wanted (Ok (Err error)) = StaysFree old new seat × PinsAt old.story new.story seat wanted (Err error)
PinsSeatAt old new seat wanted (Err wrong) = IsWrong old new (IsFree old seat)

-- the seat's pin is released
pub record GetsUp (old new : DeskFacts) (seat : ℕ) : Type 0 where
  pub pin : PinFacts
  pub held : held_at old seat ≡ Some (OnPin pin)
  pub releases : Releases old.story new.story pin
  pub seats : new.seats ≡ set old.seats seat Nothing

abbrev pub ReleasesSeat : DeskFacts → DeskFacts → ℕ → Result (Unit {0}) WrongUse → Type 0
ReleasesSeat old new seat (Ok done) = GetsUp old new seat
ReleasesSeat old new seat (Err wrong) = IsWrong old new (HasPin old seat)

-- ---- transactions

-- a transaction of which nothing was run is begun on the seat's pin
pub record Begins (old new : DeskFacts) (seat : ℕ) : Type 0 where
  pub pin : PinFacts
  pub held : held_at old seat ≡ Some (OnPin pin)
  pub holds : new ≡ with_seat old seat (InTx (started pin))

abbrev pub BeginsSeat : DeskFacts → DeskFacts → ℕ → Result (Result (Unit {0}) NoMemory) WrongUse → Type 0
BeginsSeat old new seat (Ok (Ok done)) = Begins old new seat
BeginsSeat old new seat (Ok (Err error)) = HasPin old seat × (new ≡ old)
BeginsSeat old new seat (Err wrong) = IsWrong old new (HasPin old seat)

-- a transaction after a line: the operation that it says was run, or nothing
abbrev pub RunsIn : TxFacts → TxFacts → List ℕ → Result (Unit {0}) LineError → Type 0
RunsIn old new line (Ok done) = (op : Op) × ReadsLine line (Ok op) × HasRun old new op
RunsIn old new line (Err error) = (new ≡ old) × ReadsLine line (Err error)

-- the operation that the line says was run in the seat's transaction
pub record Runs (old new : DeskFacts) (seat : ℕ) (line : List ℕ) : Type 0 where
  pub tx : TxFacts
  pub held : held_at old seat ≡ Some (InTx tx)
  pub next : TxFacts
  pub run : RunsIn tx next line (Ok tt)
  pub holds : new ≡ with_seat old seat (InTx next)

-- a line that is not run changes nothing
abbrev pub RunsSeat : DeskFacts → DeskFacts → ℕ → List ℕ → Result (Result (Unit {0}) LineError) WrongUse → Type 0
RunsSeat old new seat line (Ok (Ok done)) = Runs old new seat line
RunsSeat old new seat line (Ok (Err error)) = HasTx old seat × (new ≡ old) × ReadsLine line (Err error)
RunsSeat old new seat line (Err wrong) = IsWrong old new (HasTx old seat)

-- the seat's transaction was accepted as this version, and its pin is held again
pub record IsAccepted (old new : DeskFacts) (seat version : ℕ) : Type 0 where
  pub tx : TxFacts
  pub held : held_at old seat ≡ Some (InTx tx)
  pub accepts : Accepts old.story new.story tx version tx.pin
  pub seats : new.seats ≡ set old.seats seat (OnPin tx.pin)

-- it was refused, and goes on as it was
pub record GoesOn (old new : DeskFacts) (seat : ℕ) (error : CommitError) : Type 0 where
  pub tx : TxFacts
  pub held : held_at old seat ≡ Some (InTx tx)
  pub refused : IsRefused old.story new.story tx error
  pub seats : new.seats ≡ old.seats

abbrev pub CommitsSeat : DeskFacts → DeskFacts → ℕ → Result (Result ℕ CommitError) WrongUse → Type 0
CommitsSeat old new seat (Ok (Ok version)) = IsAccepted old new seat version
CommitsSeat old new seat (Ok (Err error)) = GoesOn old new seat error
CommitsSeat old new seat (Err wrong) = IsWrong old new (HasTx old seat)

-- the seat's transaction is over, and its pin is held again
pub record Abandons (old new : DeskFacts) (seat : ℕ) : Type 0 where
  pub tx : TxFacts
  pub held : held_at old seat ≡ Some (InTx tx)
  pub holds : new ≡ with_seat old seat (OnPin tx.pin)

abbrev pub AbandonsSeat : DeskFacts → DeskFacts → ℕ → Result (Unit {0}) WrongUse → Type 0
AbandonsSeat old new seat (Ok done) = Abandons old new seat
AbandonsSeat old new seat (Err wrong) = IsWrong old new (HasTx old seat)

-- ---- collects

-- versions are dropped for a seat, whatever it holds
abbrev pub CollectsSeat : DeskFacts → DeskFacts → ℕ → Result (Result ℕ CollectError) WrongUse → Type 0
CollectsSeat old new seat (Ok answer) = (seat < SEATS) × (new.seats ≡ old.seats) × Collects old.story new.story seat answer
CollectsSeat old new seat (Err wrong) = IsWrong old new (seat < SEATS)
