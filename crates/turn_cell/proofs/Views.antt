-- Views in a list of which one changes.
use Rattle.std.proofs.Common.{◌≡◌, ℕ, zero, suc, ◌+◌, ◌%◌, ◌<◌, ◌≤◌, ◌≢◌, ◌⊎◌, List, [], ◌∷◌, ◌++◌, length, set, sum_by, Option, sym, refl, ap, ◌∙◌, subst, inl, inr, ⊎_elim, arith}
use Rattle.std.proofs.lemmas.List.Sums.{sum_by-cons}
use mathlib.Core.Option.{some, some-injective, some-ne-none}
use mathlib.Core.Option as maybe
use mathlib.Core.Logic.{dite}
use native.Mathlib.Decide.{ℕ_discrete}
use lib.ListN.{get_elem?}
use Rattle.atomic_table.proofs.Lists.{at_set, at_longer, set_here, set_else, one_turn}
use Rattle.turn_cell.specs.declared.board.Phase.{Phase}
use Rattle.turn_cell.specs.declared.board.Phase.TheVariants.{Rest, Waiting, InTurn, Counted}
use Rattle.turn_cell.specs.declared.board.View.{View}
use Rattle.turn_cell.specs.declared.board.View.TheVariants.{Spent, Live}
use Rattle.turn_cell.specs.Views.{IsInTurn}
use Rattle.turn_cell.specs.Rule.{TookLog, HasDrawn, phase_tickets, HasTicket, view_tickets, tickets_out, AreApart, HasTurn, IsOut}
use Rattle.turn_cell.proofs.Works.{IsQueued, IsInLine, IsHome, Slot}

module _ {A : Type 0} where
  pub inside : (l : List A) (i : ℕ) (a : A) → get_elem? l i ≡ some a → i < length l
  inside [] i a e = absurd (some-ne-none a (sym e))
  inside (x ∷ xs) zero a e = omega arith
  inside (x ∷ xs) (suc i) a e = omega (arith, inside xs i a e)

  pub at_end : (l : List A) (a b : A) (j : ℕ) → get_elem? (l ++ a ∷ []) j ≡ some b → (get_elem? l j ≡ some b) ⊎ ((j ≡ length l) × (a ≡ b))
  at_end [] a b zero e = inr (refl, some-injective a b e)
  at_end [] a b (suc j) e = absurd (some-ne-none b (sym e))
  at_end (x ∷ xs) a b zero e = inl e
  at_end (x ∷ xs) a b (suc j) e = ⊎_elim (λ t. inl t) (λ (t : (j ≡ length xs) × (a ≡ b)). inr (ap suc t.0, t.1)) (at_end xs a b j e)

  pub sum_set : (f : A → ℕ) (l : List A) (i : ℕ) (a b : A) → get_elem? l i ≡ some a → sum_by f (set l i b) + f a ≡ sum_by f l + f b
  sum_set f [] i a b e = absurd (some-ne-none a (sym e))
  sum_set f (x ∷ xs) zero a b e = let same : f x ≡ f a = ap f (some-injective x a e) in omega (arith, sum_by-cons f x xs, sum_by-cons f b xs)
  sum_set f (x ∷ xs) (suc i) a b e = let more = sum_set f xs i a b e in omega (arith, sum_by-cons f x xs, sum_by-cons f x (set xs i b))

  pub sum_few : (f : A → ℕ) → ((a : A) → f a ≤ 1) → (l : List A) → sum_by f l ≤ length l
  sum_few f one [] = omega arith
  sum_few f one (x ∷ xs) = let here = one x in let more = sum_few f one xs in omega (arith, sum_by-cons f x xs)

  -- what holds in each place, where the one at id changed
  pub each_set : (P : ℕ → A → Type 0) (l : List A) (id : ℕ) (w : A) → P id w → ((j : ℕ) (v : A) → j ≢ id → get_elem? l j ≡ some v → P j v)
      → (j : ℕ) (v : A) → get_elem? (set l id w) j ≡ some v → P j v
  each_set P l id w mine others j v e = ⊎_elim (λ (t : (j ≡ id) × (w ≡ v)). subst (λ (x : ℕ × A). P x.0 x.1) (λ i. (sym t.0 i, t.1 i)) mine)
      (λ (t : (j ≢ id) × (get_elem? l j ≡ some v)). others j v t.0 t.1) (at_set l id j w v e)

closer : (served out out' t k : ℕ) → out' + 1 ≡ out → k < out → t ≡ (served + k) % 18446744073709551616 → t ≢ served % 18446744073709551616
    → (j : ℕ) × (j < out') × (t ≡ ((served + 1) + j) % 18446744073709551616)
closer served out out' t zero less in_line is not_first = absurd (not_first (is ∙ ap (λ (n : ℕ). n % 18446744073709551616) (omega arith)))
closer served out out' t (suc k) less in_line is not_first = (k, omega arith, is ∙ ap (λ (n : ℕ). n % 18446744073709551616) (omega arith))

module _ {E : Type 0} where
  drawn_few : (p : Phase E) → phase_tickets p ≤ 1
  drawn_few Rest = omega arith
  drawn_few (Waiting t) = omega arith
  drawn_few (InTurn t log) = omega arith
  drawn_few (Counted t) = omega arith

  has_one : (t : ℕ) (p : Phase E) → HasDrawn t p → phase_tickets p ≡ 1
  has_one t Rest has = absurd has
  has_one t (Waiting u) has = refl
  has_one t (InTurn u log) has = refl
  has_one t (Counted u) has = refl

  -- where a ticket stands in the line
  stands_phase : (served out t : ℕ) (p : Phase E) → IsQueued served out p → HasDrawn t p → 0 < out → (k : ℕ) × (k < out) × (t ≡ (served + k) % 18446744073709551616)
  stands_phase served out t Rest q has some_out = absurd has
  stands_phase served out t (Waiting u) q has some_out = (q.0, q.1, sym has ∙ q.2)
  stands_phase served out t (InTurn u log) q has some_out = (0, some_out, sym has ∙ (q ∙ ap (λ (n : ℕ). n % 18446744073709551616) (omega arith)))
  stands_phase served out t (Counted u) q has some_out = (0, some_out, sym has ∙ (q ∙ ap (λ (n : ℕ). n % 18446744073709551616) (omega arith)))

  later_phase : (served out out' : ℕ) (p : Phase E) → out ≤ out' → IsQueued served out p → IsQueued served out' p
  later_phase served out out' Rest more q = tt
  later_phase served out out' (Waiting t) more q = let k : ℕ = q.0 in let less : k < out = q.1 in (k, omega arith, q.2)
  later_phase served out out' (InTurn t log) more q = q
  later_phase served out out' (Counted t) more q = q

  nearer_phase : (served out out' : ℕ) (p : Phase E) → out' + 1 ≡ out → (HasDrawn (served % 18446744073709551616) p → ⊥) → IsQueued served out p → IsQueued (served + 1) out' p
  nearer_phase served out out' Rest less other q = tt
  nearer_phase served out out' (Waiting t) less other q = closer served out out' t q.0 less q.1 q.2 other
  nearer_phase served out out' (InTurn t log) less other q = absurd (other q)
  nearer_phase served out out' (Counted t) less other q = absurd (other q)

  -- a seat that has the turn has the ticket that is served
  turn_first_phase : (served out : ℕ) (log : List E) (p : Phase E) → IsQueued served out p → TookLog log p → HasDrawn (served % 18446744073709551616) p
  turn_first_phase served out log Rest q has = absurd has
  turn_first_phase served out log (Waiting t) q has = absurd has
  turn_first_phase served out log (InTurn t found) q has = q
  turn_first_phase served out log (Counted t) q has = absurd has

module _ {B E : Type 0} where
  tickets_few : (v : View B E) → view_tickets v ≤ 1
  tickets_few Spent = omega arith
  tickets_few (Live h) = drawn_few h.phase

  pub out_few : (vs : List (View B E)) → tickets_out vs ≤ length vs
  out_few vs = sum_few view_tickets tickets_few vs

  pub has_out : (vs : List (View B E)) (j t : ℕ) (v : View B E) → get_elem? vs j ≡ some v → HasTicket t v → 0 < tickets_out vs
  has_out vs j t Spent at has = absurd has
  has_out vs j t (Live h) at has = let one = has_one t h.phase has in let s = sum_set view_tickets vs j (Live h) Spent at in omega arith

  pub stands : (served out t : ℕ) (v : View B E) → IsInLine served out v → HasTicket t v → 0 < out → (k : ℕ) × (k < out) × (t ≡ (served + k) % 18446744073709551616)
  stands served out t Spent q has some_out = absurd has
  stands served out t (Live h) q has some_out = stands_phase served out t h.phase q has some_out

  -- the next ticket is nobody's
  pub fresh : (served : ℕ) (vs : List (View B E)) → tickets_out vs ≤ 64 → ((j : ℕ) (v : View B E) → get_elem? vs j ≡ some v → IsInLine served (tickets_out vs) v)
      → (j : ℕ) (v : View B E) → get_elem? vs j ≡ some v → HasTicket ((served + tickets_out vs) % 18446744073709551616) v → ⊥
  fresh served vs few line j v at has = let out : ℕ = tickets_out vs in let place = stands served out _ v (line j v at) has (has_out vs j _ v at has) in let k : ℕ = place.0 in let less : k < out = place.1 in
      let same : served + k ≡ served + out = one_turn (served + k) (served + out) 18446744073709551616 (omega arith) (omega arith) (sym place.2) in absurd (omega arith)

  -- the line grows
  pub in_longer : (served out out' : ℕ) (v : View B E) → out ≤ out' → IsInLine served out v → IsInLine served out' v
  in_longer served out out' Spent more q = tt
  in_longer served out out' (Live h) more q = later_phase served out out' h.phase more q

  -- the first of the line leaves it
  pub in_shorter : (served out out' : ℕ) (v : View B E) → out' + 1 ≡ out → (HasTicket (served % 18446744073709551616) v → ⊥) → IsInLine served out v → IsInLine (served + 1) out' v
  in_shorter served out out' Spent less other q = tt
  in_shorter served out out' (Live h) less other q = nearer_phase served out out' h.phase less other q

  -- where a seat has a new view, whose tickets no other has
  pub apart_set : (vs : List (View B E)) (id : ℕ) (w : View B E) → AreApart vs → ((t j : ℕ) (v : View B E) → j ≢ id → get_elem? vs j ≡ some v → HasTicket t w → HasTicket t v → ⊥) → AreApart (set vs id w)
  apart_set vs id w apart new i j t v u at_i at_j has_v has_u =
      ⊎_elim (λ (a : (i ≡ id) × (w ≡ v)). ⊎_elim (λ (b : (j ≡ id) × (w ≡ u)). a.0 ∙ sym b.0)
      (λ (b : (j ≢ id) × (get_elem? vs j ≡ some u)). absurd (new t j u b.0 b.1 (subst (λ (x : View B E). HasTicket t x) (sym a.1) has_v) has_u)) (at_set vs id j w u at_j))
      (λ (a : (i ≢ id) × (get_elem? vs i ≡ some v)). ⊎_elim (λ (b : (j ≡ id) × (w ≡ u)). absurd (new t i v a.0 a.1 (subst (λ (x : View B E). HasTicket t x) (sym b.1) has_u) has_v))
      (λ (b : (j ≢ id) × (get_elem? vs j ≡ some u)). apart i j t v u a.1 b.1 has_v has_u) (at_set vs id j w u at_j)) (at_set vs id i w v at_i)

  -- where it has no ticket that it did not have
  pub apart_less : (vs : List (View B E)) (id : ℕ) (v w : View B E) → get_elem? vs id ≡ some v → ((t : ℕ) → HasTicket t w → HasTicket t v) → AreApart vs → AreApart (set vs id w)
  apart_less vs id v w at less apart = apart_set vs id w apart (λ t j u other at_j has_w has_u. other (apart j id t u v at_j at has_u (less t has_w)))

  pub apart_snoc : (vs : List (View B E)) (w : View B E) → ((t : ℕ) → HasTicket t w → ⊥) → AreApart vs → AreApart (vs ++ w ∷ [])
  apart_snoc vs w none apart i j t v u at_i at_j has_v has_u =
      ⊎_elim (λ (a : get_elem? vs i ≡ some v). ⊎_elim (λ (b : get_elem? vs j ≡ some u). apart i j t v u a b has_v has_u)
      (λ (b : (j ≡ length vs) × (w ≡ u)). absurd (none t (subst (λ (x : View B E). HasTicket t x) (sym b.1) has_u))) (at_end vs w u j at_j))
      (λ (a : (i ≡ length vs) × (w ≡ v)). absurd (none t (subst (λ (x : View B E). HasTicket t x) (sym a.1) has_v))) (at_end vs w v i at_i)

  pub turn_first : (served out : ℕ) (log : List E) (v : View B E) → IsInLine served out v → HasTurn log v → HasTicket (served % 18446744073709551616) v
  turn_first served out log Spent q has = absurd has
  turn_first served out log (Live h) q has = turn_first_phase served out log h.phase q has

  pub in_turn_has : (t : ℕ) (log : List E) (v : View B E) → IsInTurn t log v → HasTurn log v
  in_turn_has t log Spent is = absurd is
  in_turn_has t log (Live h) is = subst (TookLog log) (sym is) refl

  pub in_turn_log : (t : ℕ) (found log : List E) (v : View B E) → IsInTurn t found v → HasTurn log v → found ≡ log
  in_turn_log t found log Spent is has = absurd is
  in_turn_log t found log (Live h) is has = subst (TookLog log) is has

module _ {E : Type 0} where
  took_same_phase : (found log : List E) (p : Phase E) → TookLog found p → TookLog log p → found ≡ log
  took_same_phase found log Rest a b = absurd a
  took_same_phase found log (Waiting t) a b = absurd a
  took_same_phase found log (InTurn t l) a b = sym a ∙ b
  took_same_phase found log (Counted t) a b = absurd a

module _ {B E : Type 0} where
  -- a seat has one turn
  pub took_same : (found log : List E) (v : View B E) → HasTurn found v → HasTurn log v → found ≡ log
  took_same found log Spent a b = absurd a
  took_same found log (Live h) a b = took_same_phase found log h.phase a b

module _ {T B E : Type 0} (base : T → B) (entries : T → List E) (opening : B) (log : List E) (homes : List (maybe.Option (Option T))) (vs : List (View B E)) where
  abbrev At : List (maybe.Option (Option T)) → List (View B E) → Type 0
  At h l = Slot base entries opening log h l

  -- where a seat has a new view, and no turn that it did not have
  pub slot_same : (id : ℕ) (v w : View B E) → get_elem? vs id ≡ some v → ((found : List E) → HasTurn found w → HasTurn found v) → (HasTurn log v → HasTurn log w) → At homes vs → At homes (set vs id w)
  slot_same id v w at back on slot =
      ⊎_elim (λ (home : IsHome base entries opening log homes vs). inl (home.0, home.1, home.2, home.3, λ j u found a has. each_set (λ i x. HasTurn found x → ⊥) vs id w (λ h. home.4 id v found at (back found h)) (λ i x _ e. home.4 i x found e) j u a has))
      (λ (out : IsOut entries log homes vs). inr (
        out.0,
        dite (ℕ_discrete (out.1).0 id)
            (λ is. (id, w, set_here vs id w (inside vs id v at), on (subst (HasTurn log) (some-injective ((out.1).1) v (sym (out.1).2 ∙ (ap (get_elem? vs) is ∙ at))) (out.1).3)))
            (λ not. ((out.1).0, (out.1).1, set_else vs id ((out.1).0) w not ∙ (out.1).2, (out.1).3)),
      ))
      slot

  pub slot_more : (u : View B E) → ((found : List E) → HasTurn found u → ⊥) → At homes vs → At homes (vs ++ u ∷ [])
  slot_more u quiet slot =
      ⊎_elim (λ (home : IsHome base entries opening log homes vs). inl (
        home.0,
        home.1,
        home.2,
        home.3,
        λ j x found a has. ⊎_elim (λ e. home.4 j x found e has)
            (λ (e : (j ≡ length vs) × (u ≡ x)). quiet found (subst (HasTurn found) (sym e.1) has)) (at_end vs u x j a),
      ))
      (λ (out : IsOut entries log homes vs). inr (out.0, ((out.1).0, (out.1).1, at_longer vs (u ∷ []) ((out.1).0) ((out.1).1) (out.1).2, (out.1).3)))
      slot
