-- A shared database and its passes, as their callers see them.
use Rattle.std.specs.Prelude.{◌≡◌, ℕ, List, Some}
use Rattle.netlist_schema.specs.Design.{Design}
use Rattle.edit_tx.specs.Facts.{PinFacts}
use Rattle.db_spec.specs.declared.event.Event.{Event}
use Rattle.db_spec.specs.State.{State}
use Rattle.turn_cell.specs.Seats.{SeatFacts, TurnFacts, IsAtRest, entries_of, new_seat}
use Rattle.db_core.specs.Story.{Story, IsHistory, IsPinOf, state}

-- a shared database: the turn that it is, how many passes it has, and its opening design
abbrev pub Shared : Type 0
Shared = TurnFacts Design

-- a pass: its number, the events that it has seen, and its own ones
abbrev pub Pass : Type 0
Pass = SeatFacts Design Event

-- the number of the pass that made the event
abbrev pub maker : Event → ℕ
maker event = event.caller

-- the opening design and these events
abbrev pub story : Shared → List Event → Story
story db events = record { opening = db.base; events = events }

-- the state of the database as far as the pass has seen
abbrev pub known : Shared → Pass → State
known db pass = state (story db pass.seen)

-- the pass is of this database and at rest, what it has seen is a history of the opening design, which is legal, and its own events are
-- those of its number in it
pub record IsReady (db : Shared) (pass : Pass) : Type 0 where
  pub turn : pass.turn ≡ db.id
  pub base : pass.base ≡ Some db.base
  pub rest : IsAtRest pass
  pub history : IsHistory (story db pass.seen)
  pub own : pass.own ≡ entries_of maker pass.number pass.seen

-- the pass of this number, before its first call: it has seen nothing
abbrev pub new_pass : Shared → ℕ → Pass
new_pass db number = new_seat db.id number db.base

-- as far as the pass has seen, the pin is its own and live, and has the design of its version
pub record HasPin (db : Shared) (pass : Pass) (pin : PinFacts) : Type 0 where
  pub mine : pin.caller ≡ pass.number
  pub is_pin : IsPinOf (story db pass.seen) pin

-- the pass has all pins that it had
abbrev pub KeepsPins : Shared → Pass → Pass → Type 0
KeepsPins db old new = (pin : PinFacts) → HasPin db old pin → HasPin db new pin
