-- The steps of the rule as the calls on the table ask for them, and what they tell.
use Rattle.std.proofs.Common.{◌≡◌, ℕ, ◌+◌, ◌%◌, ◌<◌, ◌≤◌, List, [], ◌∷◌, ◌++◌, All, length, Option, Some, refl, sym, subst}
use lib.ListN.{get_elem?}
use mathlib.Core.Option.{some}
use Rattle.atomic_table.specs.Table.{State, Me, opening as opening_state, Allows, Splits, Joins, Final, Seen}
use Rattle.turn_cell.specs.declared.board.Phase.TheVariants.{Rest}
use Rattle.turn_cell.specs.declared.board.View.{View}
use Rattle.turn_cell.specs.declared.board.View.TheVariants.{Spent, Live}
use Rattle.turn_cell.specs.Seats.{SeatFacts, HasEachSeat, AgreeWith}
use Rattle.turn_cell.specs.Views.{phase_of, number_of, seen_of, own_of, IsLive, IsResting, IsWaiting, IsInTurn, HasBase, IsIn}
use Rattle.turn_cell.specs.Rule.{IsKept}
use Rattle.turn_cell.specs.Steps.{newcomer, with_phase, with_entry, with_seen, with_joined, with_one_made, next_seat, Draws, Looks, Counts, Serves}
use Rattle.turn_cell.proofs.Same.{kept, allows, splits_kept, joins_kept, final_works}
use Rattle.turn_cell.proofs.Keeps.{draws, looks, counts, leaves_unchanged, leaves_counted, splits, opens, joins, closes}

module _ {T B E : Type 0} (base : T → B) (entries : T → List E) (made_by : E → ℕ) (opening : B) (seats : ℕ) where
  abbrev V : Type 0
  V = View B E

  abbrev Rule : State (Option T) V → Type 0
  Rule = IsKept base entries made_by opening seats

  -- the rule holds at the start
  pub opens_turn : (x : T) → base x ≡ opening → entries x ≡ [] → 1 ≤ seats → seats ≤ 64 → Rule (opening_state (0 ∷ 0 ∷ 0 ∷ []) (Some x ∷ []) (newcomer 0 1 opening))
  opens_turn x based empty low high = kept base entries made_by opening seats _ (opens base entries made_by opening seats x based empty low high)

  -- the first seat makes another
  pub splits_seat : (id : ℕ) (m : Me (Option T) V) (made : ℕ) (b : B) → m ≡ (newcomer 0 made b, []) → made < seats → Splits Rule id m.0 (with_one_made m.0) (next_seat m.0)
  splits_seat id m made b is room = subst (λ (x : Me (Option T) V). Splits Rule id x.0 (with_one_made x.0) (next_seat x.0)) (sym is)
      (splits_kept base entries made_by opening seats id (newcomer 0 made b) _ _ (splits base entries made_by opening seats id (newcomer 0 made b) refl refl room))

  -- a seat at rest draws a ticket
  pub draws_ticket : (slots id : ℕ) (v : V) (cs : List (ℕ × Option T)) (number : ℕ) → IsLive number v → phase_of v ≡ Rest → Allows Rule slots id (v, cs) 0 (λ n. (n + 1) % 18446744073709551616) (Draws (v, cs))
  draws_ticket slots id v cs number live idle = allows base entries made_by opening seats slots id (v, cs) 0 (λ n. (n + 1) % 18446744073709551616) (Draws (v, cs)) (draws base entries made_by opening seats slots id v cs number live idle)

  -- a seat that waits looks
  pub looks_once : (slots id : ℕ) (v : V) (cs : List (ℕ × Option T)) (t : ℕ) → IsWaiting t v → Allows Rule slots id (v, cs) 1 (λ n. n) (Looks base entries made_by (v, cs))
  looks_once slots id v cs t waits = allows base entries made_by opening seats slots id (v, cs) 1 (λ n. n) (Looks base entries made_by (v, cs)) (looks base entries made_by opening seats slots id v cs t waits)

  -- a seat in its turn, with the value x in hand, counts its entry
  pub counts_entry : (slots id : ℕ) (m : Me (Option T) V) (v : V) (more : List (ℕ × Option T)) (t : ℕ) (log : List E) (x : T) (e : E) → m ≡ (v, (0, Some x) ∷ more) → IsInTurn t log v → HasBase (base x) v → entries x ≡ log ++ e ∷ []
      → made_by e ≡ number_of v → length (entries x) < 18446744073709551616 → Allows Rule slots id m 2 (λ n. (n + 1) % 18446744073709551616) (λ _. Counts entries made_by m)
  counts_entry slots id m v more t log x e is turn based adds mine short =
      subst (λ m. Allows Rule slots id m 2 (λ n. (n + 1) % 18446744073709551616) (λ _. Counts entries made_by m)) (sym is)
      (allows base entries made_by opening seats slots id (v, (0, Some x) ∷ more) 2 (λ n. (n + 1) % 18446744073709551616) (λ _. Counts entries made_by (v, (0, Some x) ∷ more)) (counts base entries made_by opening seats slots id v ((0, Some x) ∷ more) t log x e turn refl based adds mine short))

  -- a seat in its turn, with the value x in hand, lets the next seat in
  pub serves_unchanged : (slots id : ℕ) (m : Me (Option T) V) (v : V) (more : List (ℕ × Option T)) (t : ℕ) (log : List E) (x : T) → m ≡ (v, (0, Some x) ∷ more) → IsInTurn t log v → HasBase (base x) v → entries x ≡ log
      → Allows Rule slots id m 1 (λ n. (n + 1) % 18446744073709551616) (λ _. Serves made_by m)
  serves_unchanged slots id m v more t log x is turn based same =
      subst (λ m. Allows Rule slots id m 1 (λ n. (n + 1) % 18446744073709551616) (λ _. Serves made_by m)) (sym is)
      (allows base entries made_by opening seats slots id (v, (0, Some x) ∷ more) 1 (λ n. (n + 1) % 18446744073709551616) (λ _. Serves made_by (v, (0, Some x) ∷ more)) (leaves_unchanged base entries made_by opening seats slots id v ((0, Some x) ∷ more) t log x turn refl based same))

  -- a seat whose entry is counted lets the next seat in
  pub serves_counted : (slots id : ℕ) (m : Me (Option T) V) (v : V) (more : List (ℕ × Option T)) (t : ℕ) (log : List E) (e : E) → m ≡ (with_entry t log e v, more) → IsInTurn t log v
      → Allows Rule slots id m 1 (λ n. (n + 1) % 18446744073709551616) (λ _. Serves made_by m)
  serves_counted slots id m Spent more t log e is turn = absurd turn
  serves_counted slots id m (Live h) more t log e is turn =
      subst (λ m. Allows Rule slots id m 1 (λ n. (n + 1) % 18446744073709551616) (λ _. Serves made_by m)) (sym is)
      (allows base entries made_by opening seats slots id (with_entry t log e (Live h), more) 1 (λ n. (n + 1) % 18446744073709551616) (λ _. Serves made_by (with_entry t log e (Live h), more)) (leaves_counted base entries made_by opening seats slots id (with_entry t log e (Live h)) more t refl))

  -- the first seat takes in another
  pub joins_seat : (id : ℕ) (v : V) (other : ℕ) (w : V) → IsLive 0 v → IsResting v → IsResting w → Joins Rule id v other w (with_joined v w) Spent
  joins_seat id v other w first rest_v rest_w = joins_kept base entries made_by opening seats id v other w _ Spent (joins base entries made_by opening seats id v other w first rest_v rest_w)

  -- the value comes out of the slot with the log, which all seats know
  pub closes_turn : (ws : List ℕ) (xs : List (Option T)) (id : ℕ) (v : V) (rows : List (SeatFacts B E)) (slot : Option T) → Final (Seen Rule id v) ws xs → IsResting v → All (IsIn v) rows → HasEachSeat seats rows → get_elem? xs 0 ≡ some slot
      → (x : T) × (slot ≡ Some x) × (base x ≡ opening) × All (λ s. s.base ≡ Some opening) rows × All (λ s. AgreeWith made_by (entries x) s.number s.seen s.own) rows × All (λ e. made_by e < seats) (entries x)
  closes_turn ws xs id v rows slot final resting inside all taken =
      closes base entries made_by opening seats ws xs id v rows slot (final_works base entries made_by opening seats ws xs id v final) resting inside all taken

-- what the steps tell of a seat with the value x in hand
module _ {T B E : Type 0} (entries : T → List E) (made_by : E → ℕ) where
  pub counted_then : (m w : Me (Option T) (View B E)) (v : View B E) (more : List (ℕ × Option T)) (t : ℕ) (log : List E) (x : T) (e : E) → m ≡ (v, (0, Some x) ∷ more) → IsInTurn t log v → entries x ≡ log ++ e ∷ [] → Counts entries made_by m w
      → (w ≡ (with_entry t log e v, more)) × AgreeWith made_by (log ++ e ∷ []) (number_of v) (seen_of v) (own_of v ++ e ∷ [])
  counted_then m w v more t log x e is turn adds =
      subst (λ m. Counts entries made_by m w → (w ≡ (with_entry t log e v, more)) × AgreeWith made_by (log ++ e ∷ []) (number_of v) (seen_of v) (own_of v ++ e ∷ [])) (sym is) (λ c. c t log x e turn refl adds)

  pub served_then : (m w : Me (Option T) (View B E)) (v : View B E) (more : List (ℕ × Option T)) (t : ℕ) (log : List E) (x : T) → m ≡ (v, (0, Some x) ∷ more) → IsInTurn t log v → Serves made_by m w
      → (w ≡ (with_seen log v, more)) × AgreeWith made_by log (number_of v) (seen_of v) (own_of v)
  served_then m w v more t log x is turn =
      subst (λ m. Serves made_by m w → (w ≡ (with_seen log v, more)) × AgreeWith made_by log (number_of v) (seen_of v) (own_of v)) (sym is) (λ c. c.1 t log turn)

  pub served_after : (m w : Me (Option T) (View B E)) (v : View B E) (more : List (ℕ × Option T)) (t : ℕ) (log : List E) (e : E) → m ≡ (with_entry t log e v, more) → IsInTurn t log v → Serves made_by m w → w ≡ (with_phase Rest (with_entry t log e v), more)
  served_after m w Spent more t log e is turn = absurd turn
  served_after m w (Live h) more t log e is turn = subst (λ m. Serves made_by m w → w ≡ (with_phase Rest (with_entry t log e (Live h)), more)) (sym is) (λ c. c.0 t refl)
