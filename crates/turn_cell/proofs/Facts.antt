-- What contracts see of a turn and a seat, for the fields inside.
use Rattle.std.proofs.lemmas.List.Elements.{Contains-append_right, Contains-get_or, All-cons, All-nil}
use Rattle.std.proofs.Common.{◌⊎◌, ⊎_elim, inl, inr, All, Contains, get_or, remove, append_assoc, subst, ◌≡◌, ℕ, zero, suc, ◌+◌, ◌<◌, List, [], ◌∷◌, ◌++◌, length, slice_get, Some, None, refl, sym, ap, ◌∙◌, arith}
use Rattle.atomic_table.specs.Table.{rest}
use Rattle.atomic_table.specs.Seated.{TableId}
use Rattle.turn_cell.specs.declared.board.Phase.{Phase}
use Rattle.turn_cell.specs.declared.board.Phase.TheVariants.{Rest}
use Rattle.turn_cell.specs.declared.board.Joined.{Joined}
use Rattle.turn_cell.specs.declared.board.Holder.{Holder}
use Rattle.turn_cell.specs.declared.board.View.{View}
use Rattle.turn_cell.specs.declared.board.View.TheVariants.{Spent, Live}
use Rattle.turn_cell.specs.Seats.{TurnFacts, SeatFacts, new_seat}
use Rattle.turn_cell.specs.Views.{base_of, phase_of, seen_of, own_of, IsLive, IsResting, IsIn, IsOf}
use Rattle.turn_cell.specs.Steps.{with_joined, newcomer}

module _ {B : Type 0} where
  pub same_turn : (t u : TurnFacts B) (x : TableId) → x ≡ t.id → u ≡ t → x ≡ u.id
  same_turn t u x own turn = own ∙ sym (ap (λ (s : TurnFacts B). s.id) turn)

module _ {B E : Type 0} where
  pub same_table : (a b : SeatFacts B E) (t u : TurnFacts B) → a ≡ b → b.turn ≡ t.id → u ≡ t → a.turn ≡ u.id
  same_table a b t u seat own turn = ap (λ (s : SeatFacts B E). s.turn) seat ∙ (own ∙ sym (ap (λ (s : TurnFacts B). s.id) turn))

  pub same_phase : (a b : SeatFacts B E) (p : Phase E) → a ≡ b → b.phase ≡ p → a.phase ≡ p
  same_phase a b p seat is = ap (λ (s : SeatFacts B E). s.phase) seat ∙ is

  pub new_seat_is : (t u : TableId) (n : ℕ) (b : B) (v : View B E) → t ≡ u → v ≡ newcomer n 0 b → record { turn = t; number = n; base = base_of v; phase = phase_of v; seen = seen_of v; own = own_of v } ≡ new_seat u n b
  new_seat_is t u n b v e g = λ i. record { turn = e i; number = n; base = base_of (g i); phase = phase_of (g i); seen = seen_of (g i); own = own_of (g i) }

-- one more element behind, and one before
module _ {A : Type 0} where
  pub got_snoc : (xs : List A) (f : ℕ → A) (x : A) (n : ℕ) → length xs + 1 ≡ n → ((k : ℕ) → k + 1 < n → slice_get xs k ≡ Some (f (k + 1))) → x ≡ f n
      → (k : ℕ) → k + 1 < n + 1 → slice_get (xs ++ x ∷ []) k ≡ Some (f (k + 1))
  got_snoc [] f x n long each is zero less = ap Some (is ∙ ap f (omega arith))
  got_snoc [] f x n long each is (suc k) less = absurd (omega arith)
  got_snoc (y ∷ ys) f x n long each is zero less = each zero (omega arith)
  got_snoc (y ∷ ys) f x zero long each is (suc k) less = absurd (omega arith)
  got_snoc (y ∷ ys) f x (suc n) long each is (suc k) less =
      got_snoc ys (λ i. f (suc i)) x n (omega arith) (λ i l. each (suc i) (omega arith) ∙ ap (λ (j : ℕ). Some (f j)) (omega arith)) is k (omega arith) ∙ ap (λ (j : ℕ). Some (f j)) (omega arith)

-- the first in hand
module _ {S : Type 0} where
  pub held_is : (l more : List (ℕ × S)) (a : ℕ × S) → l ≡ a ∷ more → l ≡ a ∷ rest l
  held_is l more a e = e ∙ ap (λ z. a ∷ rest z) (sym e)

-- one more element taken from the end
module _ {A : Type 0} where
  pub taken_more : (all before after gone : List A) (x : A) → all ≡ before ++ gone → before ≡ after ++ x ∷ [] → all ≡ after ++ x ∷ gone
  taken_more all before after gone x is last = is ∙ (ap (λ l. l ++ gone) last ∙ append_assoc after (x ∷ []) gone)

  pub taken_in : (all after gone : List A) (x : A) → all ≡ after ++ x ∷ gone → Contains all x
  taken_in all after gone x is = subst (λ l. Contains l x) (sym is) (Contains-append_right after (x ∷ gone) x (0, omega arith, refl))

  pub contains_more : (xs : List A) (x y : A) → Contains xs y → Contains (x ∷ xs) y
  contains_more xs x y c = let k : ℕ = c.0 in let less : k < length xs = c.1 in (suc k, omega arith, c.2)

-- one element taken out
module _ {A : Type 0} where
  pub in_or_taken : (xs : List A) (i : ℕ) (x : A) → i < length xs → x ≡ get_or xs i x → All (λ y. Contains (remove xs i) y ⊎ (y ≡ x)) xs
  in_or_taken [] i x less is = absurd (omega arith)
  in_or_taken (y ∷ ys) zero x less is = All-cons (λ z. Contains ys z ⊎ (z ≡ x)) y ys (inr (sym is)) (λ k d low. inl (Contains-get_or ys k d low))
  in_or_taken (y ∷ ys) (suc i) x less is = All-cons (λ z. Contains (y ∷ remove ys i) z ⊎ (z ≡ x)) y ys (inl (0, omega arith, refl))
      (λ k d low. ⊎_elim (λ c. inl (contains_more (remove ys i) y (get_or ys k d) c)) (λ e. inr e) (in_or_taken ys i x (omega arith) is k d low))

  pub in_before : (xs : List A) (i : ℕ) → All (Contains xs) (remove xs i)
  in_before [] zero = All-nil (Contains [])
  in_before [] (suc i) = All-nil (Contains [])
  in_before (y ∷ ys) zero = λ k d low. contains_more ys y (get_or ys k d) (Contains-get_or ys k d low)
  in_before (y ∷ ys) (suc i) = All-cons (Contains (y ∷ ys)) y (remove ys i) (0, omega arith, refl) (λ k d low. contains_more ys y (get_or (remove ys i) k d) (in_before ys i k d low))

module _ {B E : Type 0} where
  -- a seat that is not spent stands in its own view
  pub in_own : (v : View B E) (s : SeatFacts B E) (t : TableId) (n : ℕ) → IsLive n v → record { turn = t; number = n; base = base_of v; phase = phase_of v; seen = seen_of v; own = own_of v } ≡ s → IsIn v s
  in_own Spent s t n live is = absurd live
  in_own (Live h) s t n live is = inl (live ∙ ap (λ z. z.number) is, ap (λ z. z.base) is, ap (λ z. z.seen) is, ap (λ z. z.own) is)

  pub resting_of : (v : View B E) (number : ℕ) → IsLive number v → phase_of v ≡ Rest → IsResting v
  resting_of Spent number live is = absurd live
  resting_of (Live h) number live is = is

  pub still_first : (v w : View B E) → IsLive 0 v → IsLive 0 (with_joined v w)
  still_first Spent w is = absurd is
  still_first (Live h) w is = is

  pub still_resting : (v w : View B E) → IsResting v → IsResting (with_joined v w)
  still_resting Spent w is = absurd is
  still_resting (Live h) w is = is

  pub joined_last : (v w : View B E) (s : SeatFacts B E) (t : TableId) (n : ℕ) → IsResting v → IsLive n w → record { turn = t; number = n; base = base_of w; phase = phase_of w; seen = seen_of w; own = own_of w } ≡ s
      → IsIn (with_joined v w) s
  joined_last Spent w s t n resting live is = absurd resting
  joined_last (Live h) Spent s t n resting live is = absurd live
  joined_last (Live h) (Live k) s t n resting live is = inr (
    record { number = k.number; base = k.base; seen = k.seen; own = k.own },
    (0, omega arith, refl),
    (live ∙ ap (λ z. z.number) is, ap (λ z. z.base) is, ap (λ z. z.seen) is, ap (λ z. z.own) is),
  )

  joined_more_at : (h : Holder B E) (w : View B E) (s : SeatFacts B E) → IsIn (Live h) s → IsIn (with_joined (Live h) w) s
  joined_more_at h Spent s has = has
  joined_more_at h (Live k) s has = ⊎_elim (λ (e : (h.number ≡ s.number) × (Some h.base ≡ s.base) × (h.seen ≡ s.seen) × (h.own ≡ s.own)). inl e) (λ (c : (x : Joined B E) × Contains h.joined x × IsOf x s). inr (c.0, contains_more h.joined _ c.0 c.1, c.2)) has

  pub joined_more : (v w : View B E) (s : SeatFacts B E) → IsIn v s → IsIn (with_joined v w) s
  joined_more Spent w s has = absurd has
  joined_more (Live h) w s has = joined_more_at h w s has

module _ {S : Type 0} where
  pub some_none : (x : S) → Some x ≡ None → ⊥
  some_none x e = absurd (cc)

  pub some_same : (x y : S) → Some x ≡ Some y → x ≡ y
  some_same x y e = cc
