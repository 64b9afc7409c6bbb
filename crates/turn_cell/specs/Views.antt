-- What a table keeps of a seat, read piece by piece.
use Rattle.std.specs.Prelude.{◌≡◌, ◌⊎◌, ℕ, List, [], ◌∷◌, Contains, Option, Some, None}
use Rattle.turn_cell.specs.declared.board.Phase.{Phase}
use Rattle.turn_cell.specs.declared.board.Phase.TheVariants.{Rest, Waiting, InTurn, Counted}
use Rattle.turn_cell.specs.declared.board.Joined.{Joined}
use Rattle.turn_cell.specs.declared.board.View.{View}
use Rattle.turn_cell.specs.declared.board.View.TheVariants.{Spent, Live}
use Rattle.turn_cell.specs.Seats.{SeatFacts}

module _ {B E : Type 0} where
  -- the base that the seat knows, where it is not spent
  abbrev pub base_of : View B E → Option B
  base_of Spent = None
  base_of (Live h) = Some h.base

  -- how far the seat is; a spent one counts as at rest
  abbrev pub phase_of : View B E → Phase E
  phase_of Spent = Rest
  phase_of (Live h) = h.phase

  -- the seat's number
  abbrev pub number_of : View B E → ℕ
  number_of Spent = 0
  number_of (Live h) = h.number

  -- the entries that the seat has seen
  abbrev pub seen_of : View B E → List E
  seen_of Spent = []
  seen_of (Live h) = h.seen

  -- the seat's own entries
  abbrev pub own_of : View B E → List E
  own_of Spent = []
  own_of (Live h) = h.own

  -- how many seats were made, as the first seat knows it
  abbrev pub made_of : View B E → ℕ
  made_of Spent = 0
  made_of (Live h) = h.made

  -- the seat has this number and is not spent
  abbrev pub IsLive : ℕ → View B E → Type 0
  IsLive number Spent = ⊥
  IsLive number (Live h) = h.number ≡ number

  -- the seat is not spent, and has no ticket and no turn
  abbrev pub IsResting : View B E → Type 0
  IsResting Spent = ⊥
  IsResting (Live h) = h.phase ≡ Rest

  -- the seat waits with this ticket
  abbrev pub IsWaiting : ℕ → View B E → Type 0
  IsWaiting t Spent = ⊥
  IsWaiting t (Live h) = h.phase ≡ Waiting t

  -- the seat has the turn, with this ticket and this list
  abbrev pub IsInTurn : ℕ → List E → View B E → Type 0
  IsInTurn t log Spent = ⊥
  IsInTurn t log (Live h) = h.phase ≡ InTurn t log

  -- the seat's entry is counted, and its ticket is still served
  abbrev pub IsCounted : ℕ → View B E → Type 0
  IsCounted t Spent = ⊥
  IsCounted t (Live h) = h.phase ≡ Counted t

  -- the seat knows this base
  abbrev pub HasBase : B → View B E → Type 0
  HasBase b Spent = ⊥
  HasBase b (Live h) = h.base ≡ b

  -- this is what is kept of the seat
  abbrev pub IsOf : Joined B E → SeatFacts B E → Type 0
  IsOf x s = (x.number ≡ s.number) × (Some x.base ≡ s.base) × (x.seen ≡ s.seen) × (x.own ≡ s.own)

  -- the view is the seat's, or keeps the seat
  abbrev pub IsIn : View B E → SeatFacts B E → Type 0
  IsIn Spent s = ⊥
  IsIn (Live h) s =
      ((h.number ≡ s.number) × (Some h.base ≡ s.base) × (h.seen ≡ s.seen) × (h.own ≡ s.own))
      ⊎ ((x : Joined B E) × Contains h.joined x × IsOf x s)

-- the ticket of a seat in its turn
abbrev pub ticket_of : {E : Type 0} → Phase E → ℕ
ticket_of (InTurn t found) = t
ticket_of p = 0

-- the slots in hand: in its turn the seat has the slot, out of which the value was moved
abbrev pub in_hand : {T E : Type 0} → Phase E → List (ℕ × Option T)
in_hand Rest = []
in_hand (Waiting t) = []
in_hand (InTurn t log) = (0, None) ∷ []
in_hand (Counted t) = []
