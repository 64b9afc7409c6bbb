-- A desk as its callers see it: the history of the database, and what each seat holds.
use Rattle.std.specs.Prelude.{◌≡◌, ℕ, List, length, set, slice_get, Option, Some, None}
use Rattle.edit_tx.specs.Facts.{PinFacts}
use Rattle.db_core.specs.Story.{Story, IsPinOf}
use Rattle.netdb_desk.specs.declared.held.Held.{Held}
use Rattle.netdb_desk.specs.declared.held.Held.TheVariants.{Nothing, OnPin, InTx}
use Rattle.netdb_desk.specs.declared.limits.TheConstants.{SEATS}

pub record DeskFacts : Type 0 where
  pub story : Story
  pub seats : List Held

-- what a seat holds, where it is one
abbrev pub held_at : DeskFacts → ℕ → Option Held
held_at d seat = slice_get d.seats seat

-- the desk with this in the seat; as it was where the seat is none
abbrev pub with_seat : DeskFacts → ℕ → Held → DeskFacts
with_seat d seat held = record { story = d.story; seats = set d.seats seat held }

-- the pin that is held, alone or in a transaction
abbrev pub pin_of : Option Held → Option PinFacts
pin_of None = None
pin_of (Some Nothing) = None
pin_of (Some (OnPin pin)) = Some pin
pin_of (Some (InTx tx)) = Some tx.pin

-- the pin is a live one of the database, of the caller that has the seat's number
pub record IsPinAt (story : Story) (seat : ℕ) (pin : PinFacts) : Type 0 where
  pub is_pin : IsPinOf story pin
  pub caller : pin.caller ≡ seat

-- what is held is the seat's
abbrev pub IsHeldBy : Story → ℕ → Option Held → Type 0
IsHeldBy story seat None = Unit {0}
IsHeldBy story seat (Some Nothing) = Unit {0}
IsHeldBy story seat (Some (OnPin pin)) = IsPinAt story seat pin
IsHeldBy story seat (Some (InTx tx)) = IsPinAt story seat tx.pin

-- there are so many seats, and what each holds is its own
pub record IsDesk (d : DeskFacts) : Type 0 where
  pub many : length d.seats ≡ SEATS
  pub held : (seat : ℕ) → IsHeldBy d.story seat (held_at d seat)
