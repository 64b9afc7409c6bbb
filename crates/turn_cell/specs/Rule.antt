-- The rule of the table under a turn. It holds between any two steps.
use Rattle.std.specs.Prelude.{◌≡◌, ◌⊎◌, ℕ, ◌+◌, ◌%◌, ◌^◌, ◌<◌, ◌≤◌, List, [], ◌∷◌, All, length, sum_by, Option, Some}
use mathlib.Core.Option.{some, none}
use mathlib.Core.Option as maybe
use lib.ListN.{get_elem?}
use Rattle.atomic_table.specs.Table.{State}
use Rattle.turn_cell.specs.declared.board.Phase.{Phase}
use Rattle.turn_cell.specs.declared.board.Phase.TheVariants.{Rest, Waiting, InTurn, Counted}
use Rattle.turn_cell.specs.declared.board.Holder.{Holder}
use Rattle.turn_cell.specs.declared.board.View.{View}
use Rattle.turn_cell.specs.declared.board.View.TheVariants.{Spent, Live}
use Rattle.turn_cell.specs.Seats.{AgreeWith}
use Rattle.turn_cell.specs.declared.limits.TheConstants.{MOST_SEATS}

module _ {E : Type 0} where
  -- the phase has the ticket t
  abbrev pub HasDrawn : ℕ → Phase E → Type 0
  HasDrawn t Rest = ⊥
  HasDrawn t (Waiting u) = u ≡ t
  HasDrawn t (InTurn u log) = u ≡ t
  HasDrawn t (Counted u) = u ≡ t

  -- how many tickets the phase has
  abbrev pub phase_tickets : Phase E → ℕ
  phase_tickets Rest = 0
  phase_tickets (Waiting t) = 1
  phase_tickets (InTurn t log) = 1
  phase_tickets (Counted t) = 1

  -- the phase is the turn itself, in which this list was taken
  abbrev pub TookLog : List E → Phase E → Type 0
  TookLog log Rest = ⊥
  TookLog log (Waiting t) = ⊥
  TookLog log (InTurn t found) = found ≡ log
  TookLog log (Counted t) = ⊥

  -- where the phase is the turn, counted or not, its ticket is the one that is served
  abbrev pub IsServed : ℕ → Phase E → Type 0
  IsServed served Rest = Unit {0}
  IsServed served (Waiting t) = Unit {0}
  IsServed served (InTurn t log) = t ≡ served % 2 ^ 64
  IsServed served (Counted t) = t ≡ served % 2 ^ 64

module _ {B E : Type 0} where
  -- the seat has the ticket t
  abbrev pub HasTicket : ℕ → View B E → Type 0
  HasTicket t Spent = ⊥
  HasTicket t (Live h) = HasDrawn t h.phase

  -- how many tickets the seat has
  abbrev pub view_tickets : View B E → ℕ
  view_tickets Spent = 0
  view_tickets (Live h) = phase_tickets h.phase

  -- how many tickets are out
  abbrev pub tickets_out : List (View B E) → ℕ
  tickets_out views = sum_by view_tickets views

  -- the seat has the turn, and took this list
  abbrev pub HasTurn : List E → View B E → Type 0
  HasTurn log Spent = ⊥
  HasTurn log (Live h) = TookLog log h.phase

  -- it holds of the seat, unless that is spent
  abbrev pub Unspent : (Holder B E → Type 0) → View B E → Type 0
  Unspent P Spent = Unit {0}
  Unspent P (Live h) = P h

  -- it holds of each seat that is not spent, and of its place among the seats that were made
  abbrev pub EachSeat : (ℕ → Holder B E → Type 0) → List (View B E) → Type 0
  EachSeat P views = (place : ℕ) (v : View B E) → get_elem? views place ≡ some v → Unspent (P place) v

  -- no two seats have one ticket
  abbrev pub AreApart : List (View B E) → Type 0
  AreApart views =
      (i j t : ℕ) (v w : View B E)
      → get_elem? views i ≡ some v → get_elem? views j ≡ some w → HasTicket t v → HasTicket t w → i ≡ j

  -- The numbers of the seats differ and are below the number of seats that were made.
  pub record AreNumbered (made_by : E → ℕ) (seats : ℕ) (log : List E) (views : List (View B E)) : Type 0 where
    -- at most as many seats were made as were asked for, which is a number of seats that there may be
    pub few : (length views ≤ seats) × (seats ≤ MOST_SEATS)
    -- the number of a seat is its place among those that were made
    pub placed : EachSeat (λ place h. h.number ≡ place) views
    -- the first seat knows how many were made, and it alone keeps others
    pub first : EachSeat (λ place h. (place ≡ 0 → h.made ≡ length views) × (0 < place → h.joined ≡ [])) views
    -- no entry has a number that was not made
    pub made : All (λ e. made_by e < length views) log
    -- a seat that another keeps is spent
    pub gone : EachSeat (λ _ h. All (λ x. get_elem? views x.number ≡ some Spent) h.joined) views

  -- The tickets that seats have are the one that is served, the next, and so on, as many as are out.
  pub record AreInLine (served : ℕ) (views : List (View B E)) : Type 0 where
    -- each ticket of a seat is one of them
    pub drawn :
        (t place : ℕ) (v : View B E) → get_elem? views place ≡ some v → HasTicket t v
        → (k : ℕ) × (k < tickets_out views) × (t ≡ (served + k) % 2 ^ 64)
    -- each of them is some seat's
    pub held :
        (k : ℕ) → k < tickets_out views
        → (place : ℕ) × (v : View B E) × (get_elem? views place ≡ some v) × HasTicket ((served + k) % 2 ^ 64) v
    -- and no two seats have one of them
    pub apart : AreApart views

  -- a seat's lists agree with the log, and so do those of each seat that it keeps
  abbrev pub ListsAgree : (E → ℕ) → List E → Holder B E → Type 0
  ListsAgree made_by log h =
      AgreeWith made_by log h.number h.seen h.own
      × All (λ x. AgreeWith made_by log x.number x.seen x.own) h.joined

  -- a seat knows this base, and so did each seat that it keeps
  abbrev pub KnowsBase : B → Holder B E → Type 0
  KnowsBase opening h = (h.base ≡ opening) × All (λ x. x.base ≡ opening) h.joined

module _
    {T B E : Type 0}
    (entries : T → List E)
    (log : List E)
    (homes : List (maybe.Option (Option T)))
    (views : List (View B E))
  where
    -- no seat has the turn, and the slot is at home with a value whose list is the log
    abbrev pub IsAtHome : Type 0
    IsAtHome =
        (x : T) × (homes ≡ some (Some x) ∷ []) × (entries x ≡ log)
        × ((place : ℕ) (v : View B E) (found : List E) → get_elem? views place ≡ some v → HasTurn found v → ⊥)

    -- a seat has the turn, and the slot is not at home
    abbrev pub IsOut : Type 0
    IsOut =
        (homes ≡ none ∷ [])
        × ((place : ℕ) × (v : View B E) × (get_elem? views place ≡ some v) × HasTurn log v)

    -- The log is the list of the value at home, or the one that the seat which has the turn took.
    pub record IsTheLog : Type 0 where
      -- it has fewer than 2 ^ 64 entries
      pub short : length log < 2 ^ 64
      -- the slot is at home, or out with a seat that has the turn
      pub place : IsAtHome ⊎ IsOut
      -- what a seat that has the turn took is the log
      pub took :
          (place : ℕ) (v : View B E) (found : List E)
          → get_elem? views place ≡ some v → HasTurn found v → found ≡ log

-- The rule: what is true of the words, the slot and the views of all seats between any two steps. It has six points.
pub record IsKept
    {T B E : Type 0}
    (base : T → B)
    (entries : T → List E)
    (made_by : E → ℕ)
    (opening : B)
    (seats : ℕ)
    (s : State (Option T) (View B E))
    : Type 0
  where
    -- how many tickets were served in all
    pub served : ℕ
    -- the entries that were counted, in their order
    pub log : List E
    -- the words are the next ticket to be drawn, the one that is served, both modulo 2 ^ 64, and the number of entries
    pub words : s.words ≡ ((served + tickets_out s.views) % 2 ^ 64) ∷ (served % 2 ^ 64) ∷ length log ∷ []
    -- the numbers of the seats differ and are below the number made, at most 64; no entry has a number that was not made
    pub numbers : AreNumbered made_by seats log s.views
    -- the tickets of the seats are the one that is served, the next, and so on up to the next to be drawn without it, each once
    pub line : AreInLine served s.views
    -- a seat in its turn, its entry counted or not, has the ticket that is served
    pub turn : EachSeat (λ _ h. IsServed served h.phase) s.views
    -- where no seat has the turn, the slot is at home and its value has the log; where one has it, the slot is out and it took the log
    pub slot : IsTheLog entries log s.homes s.views
    -- what each seat has seen is a prefix of the log, and its own list is the entries of its number in the log
    pub lists : EachSeat (λ _ h. ListsAgree made_by log h) s.views
    -- all seats know one base, and a value at home has it
    pub bases : EachSeat (λ _ h. KnowsBase opening h) s.views × ((x : T) → s.homes ≡ some (Some x) ∷ [] → base x ≡ opening)
