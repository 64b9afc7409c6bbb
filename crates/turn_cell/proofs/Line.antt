-- The tickets that are out are the one that is served, the next, and so on: each has a seat.
use Rattle.std.proofs.Common.{◌≡◌, ℕ, zero, suc, ◌+◌, ◌%◌, ◌^◌, ◌<◌, ◌≤◌, ◌≢◌, true, false, cond, eqb, List, [], ◌∷◌, sum_by, sym, refl, ap, ◌∙◌, arith, eq-eqb, ne_eqb, lt_of_not-le}
use Rattle.std.proofs.lemmas.List.Sums.{sum_by-cons}
use mathlib.Core.Logic.{dite}
use mathlib.Core.Option.{some}
use native.Mathlib.Decide.{dec_le, ℕ_discrete}
use lib.ListN.{get_elem?}
use Rattle.atomic_table.proofs.Lists.{one_turn}
use Rattle.turn_cell.specs.declared.board.Phase.{Phase}
use Rattle.turn_cell.specs.declared.board.Phase.TheVariants.{Rest, Waiting, InTurn, Counted}
use Rattle.turn_cell.specs.declared.board.View.{View}
use Rattle.turn_cell.specs.declared.board.View.TheVariants.{Spent, Live}
use Rattle.turn_cell.specs.Rule.{view_tickets, phase_tickets, tickets_out, HasDrawn, HasTicket, AreApart}
use Rattle.turn_cell.proofs.Works.{IsQueued, IsInLine}

-- f of each number below n, added up
abbrev pub total : ℕ → (ℕ → ℕ) → ℕ
total zero f = 0
total (suc n) f = total n f + f n

total_none : (n : ℕ) (f : ℕ → ℕ) → ((k : ℕ) → k < n → f k ≡ 0) → total n f ≡ 0
total_none zero f none = refl
total_none (suc n) f none = let a = total_none n f (λ k less. none k (omega arith)) in let b = none n (omega arith) in omega arith

total_one : (n i : ℕ) (f : ℕ → ℕ) → i < n → f i ≡ 1 → ((k : ℕ) → k < n → k ≢ i → f k ≡ 0) → total n f ≡ 1
total_one zero i f less one others = absurd (omega arith)
total_one (suc n) i f less one others = dite (ℕ_discrete i n)
    (λ here. let a = total_none n f (λ k l. others k (omega arith) (λ e. absurd (omega arith))) in let b : f n ≡ 1 = ap f (sym here) ∙ one in omega arith)
    (λ before. let a = total_one n i f (omega arith) one (λ k l. others k (omega arith)) in let b = others n (omega arith) (λ e. before (sym e)) in omega arith)

total_add : (n : ℕ) (f g : ℕ → ℕ) → total n (λ k. f k + g k) ≡ total n f + total n g
total_add zero f g = refl
total_add (suc n) f g = let a = total_add n f g in omega arith

total_same : (n : ℕ) (f g : ℕ → ℕ) → ((k : ℕ) → f k ≡ g k) → total n f ≡ total n g
total_same zero f g same = refl
total_same (suc n) f g same = let a = total_same n f g same in let b = same n in omega arith

total_most : (n : ℕ) (f : ℕ → ℕ) → ((k : ℕ) → k < n → f k ≤ 1) → total n f ≤ n
total_most zero f small = omega arith
total_most (suc n) f small = let a = total_most n f (λ k l. small k (omega arith)) in let b = small n (omega arith) in omega arith

-- numbers that are at most 1 and make n together are each 1
total_full : (n : ℕ) (f : ℕ → ℕ) → ((k : ℕ) → k < n → f k ≤ 1) → n ≤ total n f → (k : ℕ) → k < n → f k ≡ 1
total_full zero f small full k less = absurd (omega arith)
total_full (suc n) f small full k less = let last = small n (omega arith) in let most = total_most n f (λ i l. small i (omega arith)) in
    dite (ℕ_discrete k n) (λ (is : k ≡ n). let b : f k ≡ f n = ap f is in omega arith) (λ other. total_full n f (λ i l. small i (omega arith)) (omega arith) k (omega arith))

module _ {A : Type 0} where
  -- the sums in either order
  sums_swap : (n : ℕ) (f : ℕ → A → ℕ) (xs : List A) → sum_by (λ x. total n (λ k. f k x)) xs ≡ total n (λ k. sum_by (f k) xs)
  sums_swap n f [] = sym (total_none n (λ k. 0) (λ k less. refl))
  sums_swap n f (x ∷ xs) = let a = sums_swap n f xs in let b = total_add n (λ k. f k x) (λ k. sum_by (f k) xs) in
      let c = total_same n (λ k. sum_by (f k) (x ∷ xs)) (λ k. f k x + sum_by (f k) xs) (λ k. sum_by-cons (f k) x xs) in
      omega (arith, sum_by-cons (λ y. total n (λ k. f k y)) x xs)

  sum_none : (f : A → ℕ) (xs : List A) → ((i : ℕ) (x : A) → get_elem? xs i ≡ some x → f x ≡ 0) → sum_by f xs ≡ 0
  sum_none f [] none = refl
  sum_none f (x ∷ xs) none = let a = none zero x refl in let b = sum_none f xs (λ i y e. none (suc i) y e) in omega (arith, sum_by-cons f x xs)

  -- at most one element counts
  sum_once : (f : A → ℕ) (xs : List A) → ((x : A) → f x ≤ 1) → ((i j : ℕ) (x y : A) → get_elem? xs i ≡ some x → get_elem? xs j ≡ some y → f x ≡ 1 → f y ≡ 1 → i ≡ j) → sum_by f xs ≤ 1
  sum_once f [] small once = omega arith
  sum_once f (x ∷ xs) small once = let here = small x in dite (ℕ_discrete (f x) 1)
      (λ is. let rest = sum_none f xs (λ i y e. let b = small y in dite (ℕ_discrete (f y) 1) (λ has. absurd (let same = once zero (suc i) x y refl e is has in omega arith)) (λ not. omega arith)) in omega (arith, sum_by-cons f x xs))
      (λ not. let rest = sum_once f xs small (λ i j y z e g a b. let same = once (suc i) (suc j) y z e g a b in omega arith) in omega (arith, sum_by-cons f x xs))

  sum_some : (f : A → ℕ) (xs : List A) → 0 < sum_by f xs → (i : ℕ) × (x : A) × (get_elem? xs i ≡ some x) × (0 < f x)
  sum_some f [] more = absurd (omega arith)
  sum_some f (x ∷ xs) more = dite (ℕ_discrete (f x) 0)
      (λ none. let later = sum_some f xs (omega (arith, sum_by-cons f x xs)) in (suc later.0, later.1, later.2, later.3))
      (λ not. (zero, x, refl, omega arith))

  sum_same : (f g : A → ℕ) (xs : List A) → ((i : ℕ) (x : A) → get_elem? xs i ≡ some x → f x ≡ g x) → sum_by f xs ≡ sum_by g xs
  sum_same f g [] same = refl
  sum_same f g (x ∷ xs) same = let a = same zero x refl in let b = sum_same f g xs (λ i y e. same (suc i) y e) in omega (arith, sum_by-cons f x xs, sum_by-cons g x xs)

-- two places of the line with one ticket are one
one_place : (served n k i : ℕ) → n ≤ 64 → k < n → i < n → (served + k) % 2 ^ 64 ≡ (served + i) % 2 ^ 64 → k ≡ i
one_place served n k i few lk li e = dite (dec_le k i)
    (λ le. let same : served + k ≡ served + i = one_turn (served + k) (served + i) 18446744073709551616 (omega arith) (omega arith) e in omega arith)
    (λ not. let more : i < k = lt_of_not-le not in let same : served + i ≡ served + k = one_turn (served + i) (served + k) 18446744073709551616 (omega arith) (omega arith) (sym e) in omega arith)

-- 1 where the two are one ticket
abbrev bit : ℕ → ℕ → ℕ
bit u t = cond (eqb u t) 1 0

bit_few : (u t : ℕ) → bit u t ≤ 1
bit_few u t = elim (eqb u t) as (λ b. cond b 1 0 ≤ 1) [ true ↦ omega arith | false ↦ omega arith ]

bit_one : (u t : ℕ) → u ≡ t → bit u t ≡ 1
bit_one u t is = ap (λ b. cond b 1 0) (eq-eqb u t is)

bit_none : (u t : ℕ) → u ≢ t → bit u t ≡ 0
bit_none u t not = ap (λ b. cond b 1 0) (ne_eqb u t not)

bit_is : (u t : ℕ) → 0 < bit u t → u ≡ t
bit_is u t more = dite (ℕ_discrete u t) (λ is. is) (λ not. let e : bit u t ≡ 0 = bit_none u t not in absurd (omega arith))

-- a ticket in the line stands in one place
bit_once : (served n u i : ℕ) → n ≤ 64 → i < n → u ≡ (served + i) % 2 ^ 64 → total n (λ k. bit u ((served + k) % 2 ^ 64)) ≡ 1
bit_once served n u i few less is = total_one n i (λ k. bit u ((served + k) % 2 ^ 64)) less (bit_one u ((served + i) % 2 ^ 64) is)
    (λ k l other. bit_none u ((served + k) % 2 ^ 64) (λ e. other (one_place served n k i few l less (sym e ∙ is))))

module _ {E : Type 0} where
  -- 1 where the phase has the ticket
  abbrev hit_phase : ℕ → Phase E → ℕ
  hit_phase t Rest = 0
  hit_phase t (Waiting u) = bit u t
  hit_phase t (InTurn u log) = bit u t
  hit_phase t (Counted u) = bit u t

  hit_few : (t : ℕ) (p : Phase E) → hit_phase t p ≤ 1
  hit_few t Rest = omega arith
  hit_few t (Waiting u) = bit_few u t
  hit_few t (InTurn u log) = bit_few u t
  hit_few t (Counted u) = bit_few u t

  hit_has : (t : ℕ) (p : Phase E) → 0 < hit_phase t p → HasDrawn t p
  hit_has t Rest more = absurd (omega arith)
  hit_has t (Waiting u) more = bit_is u t more
  hit_has t (InTurn u log) more = bit_is u t more
  hit_has t (Counted u) more = bit_is u t more

  hit_once : (served n : ℕ) (p : Phase E) → n ≤ 64 → 0 < n → IsQueued served n p → total n (λ k. hit_phase ((served + k) % 2 ^ 64) p) ≡ phase_tickets p
  hit_once served n Rest few more q = total_none n (λ k. 0) (λ k less. refl)
  hit_once served n (Waiting u) few more q = bit_once served n u q.0 few q.1 q.2
  hit_once served n (InTurn u log) few more q = bit_once served n u 0 few more (q ∙ ap (λ (k : ℕ). k % 2 ^ 64) (omega arith))
  hit_once served n (Counted u) few more q = bit_once served n u 0 few more (q ∙ ap (λ (k : ℕ). k % 2 ^ 64) (omega arith))

module _ {B E : Type 0} where
  abbrev hit : ℕ → View B E → ℕ
  hit t Spent = 0
  hit t (Live h) = hit_phase t h.phase

  view_few : (t : ℕ) (v : View B E) → hit t v ≤ 1
  view_few t Spent = omega arith
  view_few t (Live h) = hit_few t h.phase

  view_has : (t : ℕ) (v : View B E) → 0 < hit t v → HasTicket t v
  view_has t Spent more = absurd (omega arith)
  view_has t (Live h) more = hit_has t h.phase more

  view_once : (served n : ℕ) (v : View B E) → n ≤ 64 → 0 < n → IsInLine served n v → total n (λ k. hit ((served + k) % 2 ^ 64) v) ≡ view_tickets v
  view_once served n Spent few more q = total_none n (λ k. 0) (λ k less. refl)
  view_once served n (Live h) few more q = hit_once served n h.phase few more q

  -- each ticket that is out, from the one that is served on, is some seat's
  pub each_ticket : (served : ℕ) (vs : List (View B E)) → tickets_out vs ≤ 64 → ((j : ℕ) (v : View B E) → get_elem? vs j ≡ some v → IsInLine served (tickets_out vs) v) → AreApart vs
      → (k : ℕ) → k < tickets_out vs → (j : ℕ) × (v : View B E) × (get_elem? vs j ≡ some v) × HasTicket ((served + k) % 2 ^ 64) v
  each_ticket served vs few line apart k less =
      let n : ℕ = tickets_out vs in
      let at : ℕ → ℕ = λ i. (served + i) % 2 ^ 64 in
      let here : ℕ → ℕ = λ i. sum_by (hit (at i)) vs in
      let whole : n ≡ total n here = sym (sum_same (λ v. total n (λ i. hit (at i) v)) view_tickets vs (λ j v e. view_once served n v few (omega arith) (line j v e))) ∙ sums_swap n (λ i. hit (at i)) vs in
      let one : here k ≡ 1 = total_full n here
      (λ i l. sum_once (hit (at i)) vs (view_few (at i)) (λ a b v w at_a at_b has_v has_w. apart a b (at i) v w at_a at_b (view_has (at i) v (omega arith)) (view_has (at i) w (omega arith)))) (omega arith) k less in
      let found = sum_some (hit (at k)) vs (omega arith) in
      (found.0, found.1, found.2, view_has (at k) found.1 found.3)
