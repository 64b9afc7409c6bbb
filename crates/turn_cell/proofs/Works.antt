-- The rule in the form in which the steps are proved, and that it is the same rule.
use Rattle.std.proofs.Common.{◌≡◌, ℕ, ◌+◌, ◌%◌, ◌^◌, ◌<◌, ◌≤◌, ◌⊎◌, List, [], ◌∷◌, All, length, Option, Some}
use mathlib.Core.Option.{some}
use mathlib.Core.Option as maybe
use lib.ListN.{get_elem?}
use Rattle.atomic_table.specs.Table.{State}
use Rattle.turn_cell.specs.declared.board.Phase.{Phase}
use Rattle.turn_cell.specs.declared.board.Phase.TheVariants.{Rest, Waiting, InTurn, Counted}
use Rattle.turn_cell.specs.declared.board.Joined.{Joined}
use Rattle.turn_cell.specs.declared.board.View.{View}
use Rattle.turn_cell.specs.declared.board.View.TheVariants.{Spent, Live}
use Rattle.turn_cell.specs.Seats.{AgreeWith}
use Rattle.turn_cell.specs.Rule.{tickets_out, AreApart, HasTurn, IsOut}

module _ {E : Type 0} where
  -- the phase has a ticket of those that are out, and the first of them if it is the turn
  abbrev pub IsQueued : ℕ → ℕ → Phase E → Type 0
  IsQueued served out Rest = Unit {0}
  IsQueued served out (Waiting t) = (k : ℕ) × (k < out) × (t ≡ (served + k) % 2 ^ 64)
  IsQueued served out (InTurn t log) = t ≡ served % 2 ^ 64
  IsQueued served out (Counted t) = t ≡ served % 2 ^ 64

module _ {B E : Type 0} where
  abbrev pub IsInLine : ℕ → ℕ → View B E → Type 0
  IsInLine served out Spent = Unit {0}
  IsInLine served out (Live h) = IsQueued served out h.phase

  -- the seat in this place has its number; the first one knows how many were made, and it alone keeps others
  abbrev pub IsNumbered : ℕ → ℕ → View B E → Type 0
  IsNumbered made place Spent = Unit {0}
  IsNumbered made place (Live h) = (h.number ≡ place) × (place ≡ 0 → h.made ≡ made) × (0 < place → h.joined ≡ [])

module _ {B E : Type 0} (made_by : E → ℕ) (opening : B) (log : List E) where
  abbrev pub FitsJoined : Joined B E → Type 0
  FitsJoined x = (x.base ≡ opening) × AgreeWith made_by log x.number x.seen x.own

  -- what the seat knows, and what it keeps of others, fits the log and the base
  abbrev pub Fits : View B E → Type 0
  Fits Spent = Unit {0}
  Fits (Live h) = (h.base ≡ opening) × AgreeWith made_by log h.number h.seen h.own × All FitsJoined h.joined

-- the seats that were joined into this one are spent
abbrev pub KeepsSpent : {B E : Type 0} → List (View B E) → View B E → Type 0
KeepsSpent views Spent = Unit {0}
KeepsSpent views (Live h) = All (λ x. get_elem? views x.number ≡ some Spent) h.joined

module _ {T B E : Type 0} (base : T → B) (entries : T → List E) (opening : B) (log : List E) (homes : List (maybe.Option (Option T))) (views : List (View B E)) where
  -- no seat has the turn, and the value at home has the log and the base
  abbrev pub IsHome : Type 0
  IsHome = (x : T) × (homes ≡ some (Some x) ∷ []) × (base x ≡ opening) × (entries x ≡ log)
      × ((place : ℕ) (v : View B E) (found : List E) → get_elem? views place ≡ some v → HasTurn found v → ⊥)

  abbrev pub Slot : Type 0
  Slot = IsHome ⊎ IsOut entries log homes views

module _ {T B E : Type 0} (base : T → B) (entries : T → List E) (made_by : E → ℕ) (opening : B) (seats : ℕ) where
  pub record Works (s : State (Option T) (View B E)) : Type 0 where
    pub served : ℕ
    pub log : List E
    pub words : s.words ≡ ((served + tickets_out s.views) % 2 ^ 64) ∷ (served % 2 ^ 64) ∷ length log ∷ []
    pub short : length log < 2 ^ 64
    pub few : (length s.views ≤ seats) × (seats ≤ 64)
    pub numbered : (j : ℕ) (v : View B E) → get_elem? s.views j ≡ some v → IsNumbered (length s.views) j v
    pub in_line : (j : ℕ) (v : View B E) → get_elem? s.views j ≡ some v → IsInLine served (tickets_out s.views) v
    pub apart : AreApart s.views
    pub known : All (λ e. made_by e < length s.views) log
    pub fits : (j : ℕ) (v : View B E) → get_elem? s.views j ≡ some v → Fits made_by opening log v
    pub gone : (j : ℕ) (v : View B E) → get_elem? s.views j ≡ some v → KeepsSpent s.views v
    pub slot : Slot base entries opening log s.homes s.views
