-- Pairs in the order of their slots, and the place of a slot among them.
use Rattle.std.proofs.Common.{◌≡◌, ℕ, suc, zero, ◌<◌, Bool, true, false, T, IsTrue, List, [], ◌∷◌, ◌++◌, map, length, get_or, take, drop, Some, None, Result, Ok, Err, inl, inr, refl, sym, ap, ◌∙◌, subst, arith}
use Rattle.std.specs.declared.cmp.Ordering.TheVariants.{Less, Equal, Greater}
use Rattle.std.specs.Ordering.{nat_cmp, is_lt, ordering_index}
use Rattle.std.specs.List.Sorted.{IsSearchInRange, IsBinarySearchResult, IsNonDecreasingBy}
use Rattle.std.specs.FinMap.{find, put, is_sorted}
use Rattle.std.specs.FinMap.Entries.{below_all}
use Rattle.std.proofs.lemmas.Cmp.{ranked}
use Rattle.std.proofs.lemmas.Bool.{lt-ltb, le-ltb, eq-eqb, ne_eqb, cases_order, and_parts, false≢true}
use Rattle.std.proofs.lemmas.List.{length-map}
use Rattle.std.proofs.lemmas.Bool.Decides.{nat_tests}
use Rattle.ver_table.specs.Entries.{slot_at, StandsAt, BelongsAt, IsPlace, IsInOrder}

-- what numbers compare as
pub cmp_below : (a b : ℕ) → a < b → nat_cmp a b ≡ Less
cmp_below a b h = rw (lt-ltb a b h) refl

pub cmp_above : (a b : ℕ) → b < a → nat_cmp a b ≡ Greater
cmp_above a b h = rw (le-ltb a b (omega arith), ne_eqb a b (omega arith)) refl

pub cmp_same : (a b : ℕ) → a ≡ b → nat_cmp a b ≡ Equal
cmp_same a b e = rw (le-ltb a b (omega arith), eq-eqb a b e) refl

pub below_from_cmp : (a b : ℕ) → IsTrue (is_lt (nat_cmp a b)) → a < b
below_from_cmp a b h = elim (cases_order a b) [
  | inl e ↦ absurd (false≢true (rw (cmp_same a b e) at h))
  | inr (inl less) ↦ less
  | inr (inr more) ↦ absurd (false≢true (rw (cmp_above a b more) at h))
]

-- a test that holds, in the form of the maps, and back
pub to_T : {b : Bool} → IsTrue b → T b
to_T {b} h = subst T (sym h) tt

pub from_T : (b : Bool) → T b → IsTrue b
from_T true h = refl
from_T false h = absurd h

module _ {X : Type 0} where
  -- without the first pair
  pub rest_in_order : (p : ℕ × X) (ps : List (ℕ × X)) → IsInOrder (p ∷ ps) → IsInOrder ps
  rest_in_order p ps h = (and_parts (below_all nat_cmp p.0 ps) (is_sorted nat_cmp ps) h).1

  -- the second pair's slot is higher than the first's
  second_higher : (p q : ℕ × X) (ps : List (ℕ × X)) → IsInOrder (p ∷ (q ∷ ps)) → p.0 < q.0
  second_higher p q ps h =
      let above = (and_parts (below_all nat_cmp p.0 (q ∷ ps)) (is_sorted nat_cmp (q ∷ ps)) h).0 in
      below_from_cmp p.0 q.0 (and_parts (is_lt (nat_cmp p.0 q.0)) (below_all nat_cmp p.0 ps) above).0

  -- in order, a slot stands above those before it
  pub rises : (ps : List (ℕ × X)) → IsInOrder ps → (i j : ℕ) → i < j → j < length ps → slot_at ps i < slot_at ps j
  rises [] ordered i j h in_range = absurd (omega arith)
  rises (p ∷ ps) ordered zero zero h in_range = absurd (omega arith)
  rises (p ∷ []) ordered zero (suc j) h in_range = absurd (omega arith)
  rises (p ∷ (q ∷ ps)) ordered zero (suc zero) h in_range = second_higher p q ps ordered
  rises (p ∷ (q ∷ ps)) ordered zero (suc (suc j)) h in_range =
      let first : p.0 < q.0 = second_higher p q ps ordered in
      let later : q.0 < slot_at (q ∷ ps) (suc j) = rises (q ∷ ps) (rest_in_order p (q ∷ ps) ordered) zero (suc j) (omega arith) (omega arith) in
      omega arith
  rises (p ∷ ps) ordered (suc i) zero h in_range = absurd (omega arith)
  rises (p ∷ ps) ordered (suc i) (suc j) h in_range = rises ps (rest_in_order p ps ordered) i j (omega arith) (omega arith)

  -- the slot that stands at a place is found there
  pub find_at : (slot : ℕ) (ps : List (ℕ × X)) (at : ℕ) (d : ℕ × X) → StandsAt ps slot at → find nat_cmp slot ps ≡ Some (get_or ps at d).1
  find_at slot [] at d h = absurd (omega (arith, h.in_range))
  find_at slot (p ∷ ps) zero d h = rw (cmp_same slot p.0 (sym h.same)) refl
  find_at slot (p ∷ ps) (suc at) d h = rw (cmp_above slot p.0 (h.lower 0 (omega arith))) (find_at slot ps at d (record { in_range = omega (arith, h.in_range); same = h.same; lower = λ k l. h.lower (suc k) (omega arith) }))

  -- a slot below the first is not found
  find_before : (slot : ℕ) (ps : List (ℕ × X)) → IsInOrder ps → (0 < length ps → slot < slot_at ps 0) → find nat_cmp slot ps ≡ None
  find_before slot [] ordered higher = refl
  find_before slot (p ∷ ps) ordered higher =
      rw (cmp_below slot p.0 (higher (omega arith))) (find_before slot ps (rest_in_order p ps ordered) (λ h. omega (arith, higher (omega arith), rises (p ∷ ps) ordered 0 1 (omega arith) (omega arith))))

  -- a slot that belongs between others is not found
  pub find_between : (slot : ℕ) (ps : List (ℕ × X)) (at : ℕ) → IsInOrder ps → BelongsAt ps slot at → find nat_cmp slot ps ≡ None
  find_between slot ps zero ordered h = find_before slot ps ordered h.higher
  find_between slot [] (suc at) ordered h = refl
  find_between slot (p ∷ ps) (suc at) ordered h = rw (cmp_above slot p.0 (h.lower 0 (omega arith))) (find_between slot ps at (rest_in_order p ps ordered) (record { in_range = omega (arith, h.in_range); higher = λ l. h.higher (omega arith); lower = λ k l. h.lower (suc k) (omega arith) }))

  -- a pair in the place of one with its slot
  pub put_at : (slot : ℕ) (x : X) (ps : List (ℕ × X)) (at : ℕ) → StandsAt ps slot at → put nat_cmp slot x ps ≡ take at ps ++ (slot, x) ∷ drop (suc at) ps
  put_at slot x [] at h = absurd (omega (arith, h.in_range))
  put_at slot x (p ∷ ps) zero h = rw (cmp_same slot p.0 (sym h.same)) (ap (λ (s : ℕ). (s, x) ∷ ps) h.same)
  put_at slot x (p ∷ ps) (suc at) h = rw (cmp_above slot p.0 (h.lower 0 (omega arith))) (ap (λ qs. p ∷ qs) (put_at slot x ps at (record { in_range = omega (arith, h.in_range); same = h.same; lower = λ k l. h.lower (suc k) (omega arith) })))

  -- a pair between others
  pub put_between : (slot : ℕ) (x : X) (ps : List (ℕ × X)) (at : ℕ) → BelongsAt ps slot at → put nat_cmp slot x ps ≡ take at ps ++ (slot, x) ∷ drop at ps
  put_between slot x [] zero h = refl
  put_between slot x [] (suc at) h = absurd (omega (arith, h.in_range))
  put_between slot x (p ∷ ps) zero h = rw (cmp_below slot p.0 (h.higher (omega arith))) refl
  put_between slot x (p ∷ ps) (suc at) h = rw (cmp_above slot p.0 (h.lower 0 (omega arith))) (ap (λ qs. p ∷ qs) (put_between slot x ps at (record { in_range = omega (arith, h.in_range); higher = λ l. h.higher (omega arith); lower = λ k l. h.lower (suc k) (omega arith) })))

module _ {X Y : Type 0} (f : X → ℕ × Y) where
  -- the slot of the pair that f makes of the element at a place
  pub slot_of : (xs : List X) (k : ℕ) (d : X) → k < length xs → slot_at (map f xs) k ≡ (f (get_or xs k d)).0
  slot_of [] k d in_range = absurd (omega arith)
  slot_of (x ∷ xs) zero d in_range = refl
  slot_of (x ∷ xs) (suc k) d in_range = slot_of xs k d (omega arith)

  -- the comparisons with a slot rise along the elements, as a binary search asks
  comparisons_rise : (xs : List X) → IsInOrder (map f xs) → (slot : ℕ) → IsNonDecreasingBy (λ x. ordering_index (nat_cmp (f x).0 slot)) xs
  comparisons_rise xs ordered slot i j d le in_range =
      let first = slot_of xs i d (omega arith) in
      let second = slot_of xs j d in_range in
      let count = length-map xs f in
      grind (arith, nat_tests, rises (map f xs) ordered i j, λ (same : i ≡ j). ap (slot_at (map f xs)) same)

  some_element : (xs : List X) → 0 < length xs → X
  some_element [] h = absurd (omega arith)
  some_element (x ∷ xs) h = x

  -- a binary search by slot ends at the slot, or at the place where it belongs
  pub searched : (xs : List X) → IsInOrder (map f xs) → (slot : ℕ) → (r : Result ℕ ℕ) → IsSearchInRange r (length xs) → IsBinarySearchResult (λ x. nat_cmp (f x).0 slot) xs r → IsPlace (map f xs) slot r
  searched xs ordered slot (Ok at) in_range equal =
      let d = some_element xs (omega arith) in
      let same = slot_of xs at d in_range ∙ ranked _ slot _ (sym (equal d)) in
      let within : at < length (map f xs) = rw (length-map xs f) in_range in
      record { in_range = within; same = same; lower = λ k l. rw same at (rises (map f xs) ordered k at l within) }
  searched xs ordered slot (Err at) in_range parted =
      let parts = parted (comparisons_rise xs ordered slot) in
      let count = length-map xs f in
      record {
        in_range = omega arith;
        higher = λ l.
            let within : at < length xs = omega arith in
            let d = some_element xs (omega arith) in
            rw (slot_of xs at d within) (ranked _ slot _ (sym (parts.1 at d (omega arith) within)));
        lower = λ k l.
            let within : k < length xs = omega arith in
            let d = some_element xs (omega arith) in
            rw (slot_of xs k d within) (ranked _ slot _ (sym (parts.0 k d (omega arith) l)));
      }
