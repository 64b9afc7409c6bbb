-- A turn and its seats as contracts see them.
use Rattle.std.specs.Prelude.{◌≡◌, ℕ, ◌<◌, ◌==◌, filter, List, [], ◌∷◌, ◌++◌, Contains, Option, Some}
use mathlib.Core.List.{IsPrefix}
use Rattle.atomic_table.specs.Seated.{TableId}
use Rattle.turn_cell.specs.declared.board.Phase.{Phase}
use Rattle.turn_cell.specs.declared.board.Phase.TheVariants.{Rest, Waiting, InTurn, Counted}

-- which turn it is, how many seats it has, and the base of its value
pub record TurnFacts (B : Type 0) : Type 0 where
  pub id : TableId
  pub seats : ℕ
  pub base : B

-- of which turn the seat is, its number, the base of the value, how far the seat is, the entries that it has seen, and its own ones
pub record SeatFacts (B E : Type 0) : Type 0 where
  pub turn : TableId
  pub number : ℕ
  pub base : Option B
  pub phase : Phase E
  pub seen : List E
  pub own : List E

module _ {E : Type 0} where
  -- the entries of the seat of this number, in their order
  abbrev pub entries_of : (E → ℕ) → ℕ → List E → List E
  entries_of made_by number log = filter (λ e. made_by e == number) log

  -- what the seat of this number has seen is a prefix of the log, and its own list is just the entries of its number in the log
  abbrev pub AgreeWith : (E → ℕ) → List E → ℕ → List E → List E → Type 0
  AgreeWith made_by log number seen own = IsPrefix seen log × (own ≡ entries_of made_by number log)

  -- the entries are the log and one more, of this number
  abbrev pub Adds : (E → ℕ) → ℕ → List E → List E → Type 0
  Adds made_by number log entries = (e : E) × (entries ≡ log ++ e ∷ []) × (made_by e ≡ number)

  -- the phase is the turn itself
  abbrev pub IsTurn : Phase E → Type 0
  IsTurn Rest = ⊥
  IsTurn (Waiting t) = ⊥
  IsTurn (InTurn t log) = Unit {0}
  IsTurn (Counted t) = ⊥

  -- the list that was taken with the turn
  abbrev pub log_of : Phase E → List E
  log_of (InTurn t log) = log
  log_of p = []

module _ {B E : Type 0} where
  -- a seat of this turn that has done nothing yet
  abbrev pub new_seat : TableId → ℕ → B → SeatFacts B E
  new_seat turn number base =
      record { turn = turn; number = number; base = Some base; phase = Rest; seen = []; own = [] }

  -- the seat has no ticket and no turn
  abbrev pub IsAtRest : SeatFacts B E → Type 0
  IsAtRest s = s.phase ≡ Rest

  -- the seat has the turn
  abbrev pub HasTheTurn : SeatFacts B E → Type 0
  HasTheTurn s = IsTurn s.phase

  -- the list that the seat took with the turn
  abbrev pub taken : SeatFacts B E → List E
  taken s = log_of s.phase

  -- of which turn it is, its number and the base stay
  abbrev pub IsSameSeat : SeatFacts B E → SeatFacts B E → Type 0
  IsSameSeat s t = (t.turn ≡ s.turn) × (t.number ≡ s.number) × (t.base ≡ s.base)

  -- the seat has seen the list that it took and one entry more, and that entry is one more of its own
  abbrev pub Gains : SeatFacts B E → SeatFacts B E → Type 0
  Gains s t = (e : E) × (t.seen ≡ taken s ++ e ∷ []) × (t.own ≡ s.own ++ e ∷ [])

  -- one of these seats has the number
  abbrev pub HasSeat : List (SeatFacts B E) → ℕ → Type 0
  HasSeat seats number = (s : SeatFacts B E) × Contains seats s × (s.number ≡ number)

  -- each number below the count is that of one of these seats
  abbrev pub HasEachSeat : ℕ → List (SeatFacts B E) → Type 0
  HasEachSeat count seats = (n : ℕ) → n < count → HasSeat seats n
