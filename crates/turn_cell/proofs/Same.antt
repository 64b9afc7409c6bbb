-- The rule, and the form in which the steps are proved, are the same.
use Rattle.std.proofs.Common.{◌≡◌, ℕ, ◌+◌, ◌%◌, ◌<◌, List, [], ◌∷◌, All, length, Option, Some, refl, sym, ap, ◌∙◌, subst, inl, inr, ⊎_elim, arith}
use mathlib.Core.Option.{some, none, some-injective}
use mathlib.Core.Option as maybe
use lib.ListN.{get_elem?}
use Rattle.atomic_table.specs.Table.{State, Me, Allows, Splits, Joins, Final, Seen}
use Rattle.turn_cell.specs.declared.board.Phase.{Phase}
use Rattle.turn_cell.specs.declared.board.Phase.TheVariants.{Rest, Waiting, InTurn, Counted}
use Rattle.turn_cell.specs.declared.board.View.{View}
use Rattle.turn_cell.specs.declared.board.View.TheVariants.{Spent, Live}
use Rattle.turn_cell.specs.Rule.{HasDrawn, HasTicket, IsServed, tickets_out, HasTurn, Unspent, ListsAgree, KnowsBase, IsAtHome, IsOut, IsKept}
use Rattle.turn_cell.proofs.Works.{IsQueued, IsInLine, IsNumbered, Fits, KeepsSpent, IsHome, Works}
use Rattle.turn_cell.proofs.Views.{out_few, has_out, stands, turn_first, took_same}
use Rattle.turn_cell.proofs.Line.{each_ticket}

module _ {E : Type 0} where
  served_phase : (served out : ℕ) (p : Phase E) → IsQueued served out p → IsServed served p
  served_phase served out Rest q = tt
  served_phase served out (Waiting t) q = tt
  served_phase served out (InTurn t log) q = q
  served_phase served out (Counted t) q = q

  queued_phase : (served out : ℕ) (p : Phase E) → ((t : ℕ) → HasDrawn t p → (k : ℕ) × (k < out) × (t ≡ (served + k) % 18446744073709551616)) → IsServed served p → IsQueued served out p
  queued_phase served out Rest drawn turn = tt
  queued_phase served out (Waiting t) drawn turn = drawn t refl
  queued_phase served out (InTurn t log) drawn turn = turn
  queued_phase served out (Counted t) drawn turn = turn

module _ {B E : Type 0} where
  placed_of : (made place : ℕ) (v : View B E) → IsNumbered made place v → Unspent (λ h. h.number ≡ place) v
  placed_of made place Spent n = tt
  placed_of made place (Live h) n = n.0

  first_of : (made place : ℕ) (v : View B E) → IsNumbered made place v → Unspent (λ h. (place ≡ 0 → h.made ≡ made) × (0 < place → h.joined ≡ [])) v
  first_of made place Spent n = tt
  first_of made place (Live h) n = (n.1, n.2)

  numbered_of : (made place : ℕ) (v : View B E) → Unspent (λ h. h.number ≡ place) v → Unspent (λ h. (place ≡ 0 → h.made ≡ made) × (0 < place → h.joined ≡ [])) v → IsNumbered made place v
  numbered_of made place Spent number first = tt
  numbered_of made place (Live h) number first = (number, first.0, first.1)

  gone_of : (views : List (View B E)) (v : View B E) → KeepsSpent views v → Unspent (λ h. All (λ x. get_elem? views x.number ≡ some Spent) h.joined) v
  gone_of views Spent g = tt
  gone_of views (Live h) g = g

  of_gone : (views : List (View B E)) (v : View B E) → Unspent (λ h. All (λ x. get_elem? views x.number ≡ some Spent) h.joined) v → KeepsSpent views v
  of_gone views Spent g = tt
  of_gone views (Live h) g = g

  served_of : (served out : ℕ) (v : View B E) → IsInLine served out v → Unspent (λ h. IsServed served h.phase) v
  served_of served out Spent q = tt
  served_of served out (Live h) q = served_phase served out h.phase q

  in_line_of : (served out : ℕ) (v : View B E) → ((t : ℕ) → HasTicket t v → (k : ℕ) × (k < out) × (t ≡ (served + k) % 18446744073709551616)) → Unspent (λ h. IsServed served h.phase) v → IsInLine served out v
  in_line_of served out Spent drawn turn = tt
  in_line_of served out (Live h) drawn turn = queued_phase served out h.phase drawn turn

  lists_of : (made_by : E → ℕ) (opening : B) (log : List E) (v : View B E) → Fits made_by opening log v → Unspent (ListsAgree made_by log) v
  lists_of made_by opening log Spent f = tt
  lists_of made_by opening log (Live h) f = (f.1, λ k d less. (f.2 k d less).1)

  bases_of : (made_by : E → ℕ) (opening : B) (log : List E) (v : View B E) → Fits made_by opening log v → Unspent (KnowsBase opening) v
  bases_of made_by opening log Spent f = tt
  bases_of made_by opening log (Live h) f = (f.0, λ k d less. (f.2 k d less).0)

  fits_of : (made_by : E → ℕ) (opening : B) (log : List E) (v : View B E) → Unspent (ListsAgree made_by log) v → Unspent (KnowsBase opening) v → Fits made_by opening log v
  fits_of made_by opening log Spent lists bases = tt
  fits_of made_by opening log (Live h) lists bases = (bases.0, lists.0, λ k d less. (bases.1 k d less, lists.1 k d less))

module _ {T B E : Type 0} (base : T → B) (entries : T → List E) (made_by : E → ℕ) (opening : B) (seats : ℕ) where
  abbrev St : Type 0
  St = State (Option T) (View B E)

  abbrev Rule : St → Type 0
  Rule = IsKept base entries made_by opening seats

  abbrev Working : St → Type 0
  Working = Works base entries made_by opening seats

  some_value : (x y : T) → ◌≡◌ {A = List (maybe.Option (Option T))} (some (Some x) ∷ []) (some (Some y) ∷ []) → x ≡ y
  some_value x y e = cc

  not_home : (x : T) → ◌≡◌ {A = List (maybe.Option (Option T))} (some (Some x) ∷ []) (none ∷ []) → ⊥
  not_home x e = cc

  -- the value at home has the base
  home_base : (s : St) (r : Working s) (x : T) → s.homes ≡ some (Some x) ∷ [] → base x ≡ opening
  home_base s r x at = ⊎_elim (λ (home : IsHome base entries opening r.log s.homes s.views). ap base (some_value x home.0 (sym at ∙ home.1)) ∙ home.2)
      (λ (out : IsOut entries r.log s.homes s.views). absurd (not_home x (sym at ∙ out.0))) r.slot

  -- a seat that has the turn took the log
  turn_log : (s : St) (r : Working s) (place : ℕ) (v : View B E) (found : List E) → get_elem? s.views place ≡ some v → HasTurn found v → found ≡ r.log
  turn_log s r place v found at has = ⊎_elim (λ (home : IsHome base entries opening r.log s.homes s.views). absurd (home.4 place v found at has))
      (λ (out : IsOut entries r.log s.homes s.views). let j : ℕ = (out.1).0 in let u : View B E = (out.1).1 in let first : ℕ = r.served % 18446744073709551616 in
      let same : j ≡ place = r.apart j place first u v (out.1).2 at (turn_first r.served (tickets_out s.views) r.log u (r.in_line j u (out.1).2) (out.1).3) (turn_first r.served (tickets_out s.views) found v (r.in_line place v at) has) in
      let this : u ≡ v = some-injective u v (sym (out.1).2 ∙ (ap (get_elem? s.views) same ∙ at)) in
      took_same found r.log v has (subst (HasTurn r.log) this (out.1).3))
      r.slot

  pub kept : (s : St) → Working s → Rule s
  kept s r = let out : ℕ = tickets_out s.views in let few = r.few in let most = out_few s.views in record {
    served = r.served;
    log = r.log;
    words = r.words;
    numbers = record {
      few = r.few;
      placed = λ j v at. placed_of (length s.views) j v (r.numbered j v at);
      first = λ j v at. first_of (length s.views) j v (r.numbered j v at);
      made = r.known;
      gone = λ j v at. gone_of s.views v (r.gone j v at);
    };
    line = record {
      drawn = λ t j v at has. stands r.served out t v (r.in_line j v at) has (has_out s.views j t v at has);
      held = each_ticket r.served s.views (omega arith) r.in_line r.apart;
      apart = r.apart;
    };
    turn = λ j v at. served_of r.served out v (r.in_line j v at);
    slot = record {
      short = r.short;
      place = ⊎_elim (λ (home : IsHome base entries opening r.log s.homes s.views). inl (home.0, home.1, home.3, home.4)) (λ (o : IsOut entries r.log s.homes s.views). inr o) r.slot;
      took = turn_log s r;
    };
    lists = λ j v at. lists_of made_by opening r.log v (r.fits j v at);
    bases = (λ j v at. bases_of made_by opening r.log v (r.fits j v at), home_base s r);
  }

  pub works : (s : St) → Rule s → Working s
  works s r = record {
    served = r.served;
    log = r.log;
    words = r.words;
    short = r.slot.short;
    few = r.numbers.few;
    numbered = λ j v at. numbered_of (length s.views) j v (r.numbers.placed j v at) (r.numbers.first j v at);
    in_line = λ j v at. in_line_of r.served (tickets_out s.views) v (λ t. r.line.drawn t j v at) (r.turn j v at);
    apart = r.line.apart;
    known = r.numbers.made;
    fits = λ j v at. fits_of made_by opening r.log v (r.lists j v at) (r.bases.0 j v at);
    gone = λ j v at. of_gone s.views v (r.numbers.gone j v at);
    slot = ⊎_elim (λ (home : IsAtHome entries r.log s.homes s.views). inl (home.0, home.1, r.bases.1 home.0 home.1, home.2, home.3)) (λ (o : IsOut entries r.log s.homes s.views). inr o) r.slot.place;
  }

  -- what a step asks
  pub allows : (slots id : ℕ) (m : Me (Option T) (View B E)) (i : ℕ) (f : ℕ → ℕ) (then : ℕ → Me (Option T) (View B E) → Type 0) → Allows Working slots id m i f then → Allows Rule slots id m i f then
  allows slots id m i f then a = λ s r deep at small. let x = a s (works s r) deep at small in (x.0, x.1, x.2, kept _ x.3, x.4)

  pub splits_kept : (id : ℕ) (v left right : View B E) → Splits Working id v left right → Splits Rule id v left right
  splits_kept id v left right a = λ s r at. kept _ (a s (works s r) at)

  pub joins_kept : (id : ℕ) (v : View B E) (other : ℕ) (w both gone : View B E) → Joins Working id v other w both gone → Joins Rule id v other w both gone
  joins_kept id v other w both gone a = λ s r at apart there. kept _ (a s (works s r) at apart there)

  pub final_works : (ws : List ℕ) (xs : List (Option T)) (id : ℕ) (v : View B E) → Final (Seen Rule id v) ws xs → Final (Seen Working id v) ws xs
  final_works ws xs id v f = (f.0, (works f.0 f.1.0, f.1.1), f.2, f.3, f.4)
