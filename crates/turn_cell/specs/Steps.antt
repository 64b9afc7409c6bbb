-- What each kind of step does to a seat, and what it tells it.
use Rattle.std.specs.Prelude.{◌≡◌, ◌≢◌, ℕ, ◌+◌, List, [], ◌∷◌, ◌++◌, Bool, MatchBool, Option, Some}
use Rattle.atomic_table.specs.Table.{Me, rest}
use Rattle.turn_cell.specs.declared.board.Phase.{Phase}
use Rattle.turn_cell.specs.declared.board.Phase.TheVariants.{Rest, Waiting, InTurn, Counted}
use Rattle.turn_cell.specs.declared.board.Joined.{Joined}
use Rattle.turn_cell.specs.declared.board.View.{View}
use Rattle.turn_cell.specs.declared.board.View.TheVariants.{Spent, Live}
use Rattle.turn_cell.specs.Seats.{AgreeWith}
use Rattle.turn_cell.specs.Views.{number_of, seen_of, own_of, IsWaiting, IsInTurn, IsCounted, HasBase}

module _ {B E : Type 0} where
  -- a seat that has done nothing yet
  abbrev pub newcomer : ℕ → ℕ → B → View B E
  newcomer number made base =
      Live record { number = number; base = base; phase = Rest; seen = []; own = []; made = made; joined = [] }

  -- the seat in another phase
  abbrev pub with_phase : Phase E → View B E → View B E
  with_phase p Spent = Spent
  with_phase p (Live h) = Live record h { phase = p }

  -- the first seat once it has made one more
  abbrev pub with_one_made : View B E → View B E
  with_one_made Spent = Spent
  with_one_made (Live h) = Live record h { made = h.made + 1 }

  -- the seat that is made: it has the next number, the same base and empty lists, and is at rest
  abbrev pub next_seat : View B E → View B E
  next_seat Spent = Spent
  next_seat (Live h) = newcomer h.made 0 h.base

  -- the seat once its entry is counted: it has seen the log with the entry, which is one more of its own
  abbrev pub with_entry : ℕ → List E → E → View B E → View B E
  with_entry t log e Spent = Spent
  with_entry t log e (Live h) = Live record h { phase = Counted t; seen = log ++ e ∷ []; own = h.own ++ e ∷ [] }

  -- the seat once it has left without an entry: it has seen the log
  abbrev pub with_seen : List E → View B E → View B E
  with_seen log Spent = Spent
  with_seen log (Live h) = Live record h { phase = Rest; seen = log }

  -- the seats kept, and this one
  abbrev pub joined_to : List (Joined B E) → View B E → List (Joined B E)
  joined_to xs Spent = xs
  joined_to xs (Live h) = record { number = h.number; base = h.base; seen = h.seen; own = h.own } ∷ xs

  -- the first seat once another was joined into it: it keeps that seat's number, base and lists
  abbrev pub with_joined : View B E → View B E → View B E
  with_joined Spent v = Spent
  with_joined (Live h) v = Live record h { joined = joined_to h.joined v }

-- a seat's view, and what it has in hand
abbrev pub Sat : Type 0 → Type 0 → Type 0 → Type 0
Sat T B E = Me (Option T) (View B E)

module _ {T B E : Type 0} where
  -- a ticket is drawn: the seat waits with the number found
  abbrev pub Draws : Sat T B E → ℕ → Sat T B E → Type 0
  Draws m n w = w ≡ (with_phase (Waiting n) m.0, m.1)

  -- A waiting seat looks. Where the number found is not its ticket, nothing changes. Where it is, the seat has the turn with the slot
  -- and the list of the slot's value, which has the seat's base and agrees with the seat's lists.
  abbrev pub Looks : (T → B) → (T → List E) → (E → ℕ) → Sat T B E → ℕ → Sat T B E → Type 0
  Looks base entries made_by m n w =
      (t : ℕ) → IsWaiting t m.0
      → (n ≢ t → w ≡ m)
      × (n ≡ t
      → (x : T) × HasBase (base x) m.0
      × (w ≡ (with_phase (InTurn t (entries x)) m.0, (0, Some x) ∷ m.1))
      × AgreeWith made_by (entries x) (number_of m.0) (seen_of m.0) (own_of m.0))

  -- the entry of the seat in its turn is counted: the seat gives the slot back, and its lists agree with the log and the entry
  abbrev pub Counts : (T → List E) → (E → ℕ) → Sat T B E → Sat T B E → Type 0
  Counts entries made_by m w =
      (t : ℕ) (log : List E) (x : T) (e : E)
      → IsInTurn t log m.0 → m.1 ≡ (0, Some x) ∷ rest m.1 → entries x ≡ log ++ e ∷ []
      → (w ≡ (with_entry t log e m.0, rest m.1))
      × AgreeWith made_by (log ++ e ∷ []) (number_of m.0) (seen_of m.0) (own_of m.0 ++ e ∷ [])

  -- The next ticket is served. A seat whose entry was counted is at rest. One that was in its turn gives the slot back, is at rest and
  -- has seen the log, which agrees with its lists.
  abbrev pub Serves : (E → ℕ) → Sat T B E → Sat T B E → Type 0
  Serves made_by m w =
      ((t : ℕ) → IsCounted t m.0 → w ≡ (with_phase Rest m.0, m.1))
      × ((t : ℕ) (log : List E) → IsInTurn t log m.0
      → (w ≡ (with_seen log m.0, rest m.1)) × AgreeWith made_by log (number_of m.0) (seen_of m.0) (own_of m.0))

module _ {B E : Type 0} where
  -- the seat v has left with these entries and is w: with one entry more, which is its own, or with none
  abbrev pub HasLeft : (E → ℕ) → Bool → ℕ → List E → List E → View B E → View B E → Type 0
  HasLeft made_by added t log entries v w =
      MatchBool added
      ((e : E) × (entries ≡ log ++ e ∷ []) × (made_by e ≡ number_of v)
      × (w ≡ with_phase Rest (with_entry t log e v))
      × AgreeWith made_by (log ++ e ∷ []) (number_of v) (seen_of v) (own_of v ++ e ∷ []))
      ((entries ≡ log) × (w ≡ with_seen log v) × AgreeWith made_by log (number_of v) (seen_of v) (own_of v))
