-- Seats that stand in the order of their numbers.
use Rattle.std.proofs.Common.{◌≡◌, ℕ, zero, suc, ◌<◌, List, [], ◌∷◌, length, get_or, slice_get, Some, refl, sym, subst, arith}
use Rattle.turn_cell.proofs.Facts.{some_none, some_same}
use Rattle.turn_cell.specs.Seats.{SeatFacts, HasEachSeat}

module _ {A : Type 0} where
  pub got_at : (xs : List A) (k : ℕ) (x d : A) → slice_get xs k ≡ Some x → get_or xs k d ≡ x
  got_at [] k x d is = absurd (some_none x (sym is))
  got_at (y ∷ ys) zero x d is = some_same y x is
  got_at (y ∷ ys) (suc k) x d is = got_at ys k x d is

  element_at : (xs : List A) (n : ℕ) → n < length xs → (x : A) × ((d : A) → get_or xs n d ≡ x)
  element_at [] n less = absurd (omega arith)
  element_at (y ∷ ys) zero less = (y, λ d. refl)
  element_at (y ∷ ys) (suc n) less = element_at ys n (omega arith)

module _ {B E : Type 0} (rows : List (SeatFacts B E)) (count : ℕ) where
  -- there are so many seats, and each has its place as its number
  abbrev pub InOrder : Type 0
  InOrder = (length rows ≡ count) × ((k : ℕ) (d : SeatFacts B E) → k < count → (get_or rows k d).number ≡ k)

  pub has_each : InOrder → HasEachSeat count rows
  has_each order n less = let low : n < length rows = subst (λ (k : ℕ). n < k) (sym order.0) less in let found = element_at rows n low in
      (found.0, (n, low, found.1 found.0), subst (λ (s : SeatFacts B E). s.number ≡ n) (found.1 found.0) (order.1 n found.0 less))
