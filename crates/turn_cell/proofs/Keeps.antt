-- Each step keeps the rule.
use Rattle.std.proofs.Common.{◌≡◌, ℕ, zero, suc, ◌+◌, ◌%◌, ◌<◌, ◌≤◌, ◌≢◌, ◌⊎◌, List, [], ◌∷◌, ◌++◌, All, Contains, length, get_or, set, Option, Some, None, mod-eq_of_lt, sym, refl, ap, ◌∙◌, subst, inl, inr, ⊎_elim, arith, length-set, length-append}
use Rattle.std.proofs.Math.Nat.{mod-add-mod}
use Rattle.std.proofs.lemmas.List.Sums.{sum_by-append, sum_by-cons}
use mathlib.Core.Option.{some, none, some-injective, some-ne-none}
use mathlib.Core.Option as maybe
use mathlib.Core.Logic.{dite}
use native.Mathlib.Decide.{ℕ_discrete}
use lib.ListN.{get_elem?}
use lib.Seq.{set-get_or}
use Rattle.atomic_table.specs.Table.{State, opening as opening_state, keeps, takes, gives, put_back, rest, Allows, Splits, Joins, Final, Seen}
use Rattle.atomic_table.proofs.Lists.{set_here, set_else}
use Rattle.std.proofs.lemmas.List.{set_comm}
use Rattle.std.proofs.lemmas.List.Elements.{All-append, All-cons, All-contains, All-nil}
use mathlib.Core.List.{IsPrefix}
use Rattle.turn_cell.specs.declared.board.Phase.{Phase}
use Rattle.turn_cell.specs.declared.board.Phase.TheVariants.{Rest, Waiting, InTurn, Counted}
use Rattle.turn_cell.specs.declared.board.Joined.{Joined}
use Rattle.turn_cell.specs.declared.board.Holder.{Holder}
use Rattle.turn_cell.specs.declared.board.View.{View}
use Rattle.turn_cell.specs.declared.board.View.TheVariants.{Spent, Live}
use Rattle.turn_cell.specs.Seats.{SeatFacts, HasSeat, HasEachSeat, AgreeWith}
use Rattle.turn_cell.specs.Views.{phase_of, made_of, number_of, IsLive, IsResting, IsWaiting, IsInTurn, IsCounted, HasBase, IsIn, IsOf}
use Rattle.turn_cell.specs.Rule.{TookLog, HasDrawn, phase_tickets, HasTicket, view_tickets, tickets_out, HasTurn, IsOut}
use Rattle.turn_cell.specs.Steps.{newcomer, with_phase, with_entry, with_seen, with_joined, with_one_made, next_seat, Draws, Looks, Counts, Serves}
use Rattle.turn_cell.proofs.Works.{IsQueued, IsInLine, IsNumbered, FitsJoined, Fits, KeepsSpent, IsHome, Slot, Works}
use Rattle.turn_cell.proofs.Views.{inside, at_end, sum_set, each_set, out_few, fresh, in_longer, in_shorter, apart_set, apart_less, apart_snoc, turn_first, in_turn_has, in_turn_log, slot_same, slot_more}
use Rattle.turn_cell.proofs.Logs.{prefix_all, none_of, agree_own, agree_all, joined_push, spent_set, spent_more, fits_push}

module _ {E : Type 0} where
  abbrev tail : List E → List E
  tail [] = []
  tail (x ∷ xs) = xs

  no_tail : (xs : List E) (x : E) → [] ≡ xs ++ x ∷ [] → ⊥
  no_tail [] x e = absurd (cc)
  no_tail (y ∷ ys) x e = absurd (cc)

  -- the ticket of a phase that waits
  abbrev waited : Phase E → ℕ
  waited (Waiting t) = t
  waited p = 0

  -- the ticket of a phase that is served
  abbrev served_ticket : Phase E → ℕ
  served_ticket (InTurn t log) = t
  served_ticket p = 0

  turn_not_counted : (t u : ℕ) (log : List E) → ◌≡◌ {A = Phase E} (InTurn t log) (Counted u) → ⊥
  turn_not_counted t u log e = cc

  abbrev served_log : Phase E → List E
  served_log (InTurn t log) = log
  served_log p = []

  last_same : (xs ys : List E) (x y : E) → xs ++ x ∷ [] ≡ ys ++ y ∷ [] → x ≡ y
  last_same [] [] x y e = cc
  last_same [] (b ∷ ys) x y e = absurd (no_tail ys y (ap tail e))
  last_same (a ∷ xs) [] x y e = absurd (no_tail xs x (sym (ap tail e)))
  last_same (a ∷ xs) (b ∷ ys) x y e = last_same xs ys x y (ap tail e)

module _ {B E : Type 0} where
  still_numbered : (n m place : ℕ) (v : View B E) → place ≢ 0 → IsNumbered n place v → IsNumbered m place v
  still_numbered n m place Spent other k = tt
  still_numbered n m place (Live h) other k = (k.0, λ z. absurd (other z), k.2)

module _ {B E : Type 0} where
  -- the seat, or one that was joined into it, has the number
  abbrev pub HasNumber : ℕ → View B E → Type 0
  HasNumber n Spent = ⊥
  HasNumber n (Live h) = (h.number ≡ n) ⊎ ((y : Joined B E) × Contains h.joined y × (y.number ≡ n))

module _ {B E : Type 0} where
  number_in : (v : View B E) (rows : List (SeatFacts B E)) (n : ℕ) → All (IsIn v) rows → HasSeat rows n → HasNumber n v
  number_in Spent rows n inside_v has = All-contains (IsIn Spent) rows has.0 inside_v has.1
  number_in (Live h) rows n inside_v has = let x : SeatFacts B E = has.0 in ⊎_elim
      (λ (e : (h.number ≡ x.number) × (Some h.base ≡ x.base) × (h.seen ≡ x.seen) × (h.own ≡ x.own)). inl (e.0 ∙ has.2)) (λ (c : (y : Joined B E) × Contains h.joined y × IsOf y x). inr (c.0, c.1, c.2.0 ∙ has.2))
      (All-contains (IsIn (Live h)) rows has.0 inside_v has.1)

module _ {T : Type 0} where
  abbrev first_value : List (ℕ × Option T) → Option T
  first_value [] = None
  first_value (x ∷ xs) = x.1

  same_value : (cs : List (ℕ × Option T)) (x y : T) → cs ≡ (0, Some x) ∷ rest cs → cs ≡ (0, Some y) ∷ rest cs → x ≡ y
  same_value cs x y held held' = let e : Some x ≡ Some y = ap first_value (sym held ∙ held') in cc

module _ {T B E : Type 0} (base : T → B) (entries : T → List E) (made_by : E → ℕ) (opening : B) (seats : ℕ) where
  abbrev V : Type 0
  V = View B E

  abbrev St : Type 0
  St = State (Option T) V

  abbrev Working : St → Type 0
  Working = Works base entries made_by opening seats

  few_out : (s : St) (r : Working s) → tickets_out s.views ≤ 64
  few_out s r = let a = out_few s.views in let b = r.few in omega arith

  numbered_set : (s : St) (r : Working s) (id : ℕ) (w : V) → IsNumbered (length s.views) id w → (j : ℕ) (v : V) → get_elem? (set s.views id w) j ≡ some v → IsNumbered (length (set s.views id w)) j v
  numbered_set s r id w mine = subst (λ (n : ℕ). (j : ℕ) (v : V) → get_elem? (set s.views id w) j ≡ some v → IsNumbered n j v) (sym (length-set s.views id w))
      (each_set (IsNumbered (length s.views)) s.views id w mine (λ j v _ at. r.numbered j v at))

  few_set : (s : St) (r : Working s) (id : ℕ) (w : V) → (length (set s.views id w) ≤ seats) × (seats ≤ 64)
  few_set s r id w = let few = r.few in let same = length-set s.views id w in (omega arith, omega arith)

  known_set : (s : St) (r : Working s) (id : ℕ) (w : V) → All (λ e. made_by e < length (set s.views id w)) r.log
  known_set s r id w = subst (λ (n : ℕ). All (λ e. made_by e < n) r.log) (sym (length-set s.views id w)) r.known

  fits_set : (s : St) (r : Working s) (id : ℕ) (w : V) → Fits made_by opening r.log w → (j : ℕ) (v : V) → get_elem? (set s.views id w) j ≡ some v → Fits made_by opening r.log v
  fits_set s r id w mine = each_set (λ _. Fits made_by opening r.log) s.views id w mine (λ j v _ a. r.fits j v a)

  gone_set : (s : St) (r : Working s) (id : ℕ) (h : Holder B E) (w : V) → get_elem? s.views id ≡ some (Live h) → KeepsSpent s.views w → (j : ℕ) (v : V) → get_elem? (set s.views id w) j ≡ some v → KeepsSpent (set s.views id w) v
  gone_set s r id h w at mine j v a = spent_set s.views id h w v at (each_set (λ _. KeepsSpent s.views) s.views id w mine (λ i u _ b. r.gone i u b) j v a)

  -- the seat that has the turn is the only one, and has the log
  turn_here : (s : St) (r : Working s) (id : ℕ) (v : V) (t : ℕ) (found : List E) → get_elem? s.views id ≡ some v → IsInTurn t found v
      → (s.homes ≡ none ∷ []) × (found ≡ r.log) × HasTicket (r.served % 18446744073709551616) v
  turn_here s r id v t found at is = let first = turn_first r.served (tickets_out s.views) found v (r.in_line id v at) (in_turn_has t found v is) in
      ⊎_elim (λ (home : IsHome base entries opening r.log s.homes s.views). absurd (home.4 id v found at (in_turn_has t found v is)))
      (λ (out : IsOut entries r.log s.homes s.views). let j : ℕ = (out.1).0 in let u : V = (out.1).1 in
      let same : j ≡ id = r.apart j id (r.served % 18446744073709551616) u v (out.1).2 at (turn_first r.served (tickets_out s.views) r.log u (r.in_line j u (out.1).2) (out.1).3) first in
      let this : u ≡ v = some-injective u v (sym (out.1).2 ∙ (ap (get_elem? s.views) same ∙ at)) in
      (out.0, in_turn_log t found r.log v is (subst (HasTurn r.log) this (out.1).3), first))
      r.slot

  -- where a seat waits whose ticket is served, the slot is at home
  home_here : (s : St) (r : Working s) (id : ℕ) (v : V) → get_elem? s.views id ≡ some v → HasTicket (r.served % 18446744073709551616) v → ((found : List E) → HasTurn found v → ⊥)
      → IsHome base entries opening r.log s.homes s.views
  home_here s r id v at first quiet = ⊎_elim (λ home. home)
      (λ (out : IsOut entries r.log s.homes s.views). let j : ℕ = (out.1).0 in let u : V = (out.1).1 in
      let same : j ≡ id = r.apart j id (r.served % 18446744073709551616) u v (out.1).2 at (turn_first r.served (tickets_out s.views) r.log u (r.in_line j u (out.1).2) (out.1).3) first in
      let this : u ≡ v = some-injective u v (sym (out.1).2 ∙ (ap (get_elem? s.views) same ∙ at)) in
      absurd (quiet r.log (subst (HasTurn r.log) this (out.1).3)))
      r.slot

  -- a ticket is drawn
  pub draws : (slots id : ℕ) (v : V) (cs : List (ℕ × Option T)) (number : ℕ) → IsLive number v → phase_of v ≡ Rest
      → Allows Working slots id (v, cs) 0 (λ n. (n + 1) % 18446744073709551616) (Draws (v, cs))
  draws slots id Spent cs number live idle = absurd live
  draws slots id (Live h) cs number live idle = λ s r deep at small.
      let n : ℕ = get_or s.words 0 0 in
      let w : V = with_phase (Waiting n) (Live h) in
      let out : ℕ = tickets_out s.views in
      let out' : ℕ = tickets_out (set s.views id w) in
      let none : view_tickets (Live h) ≡ 0 = ap phase_tickets idle in
      let more : out' ≡ out + 1 = (let e = sum_set view_tickets s.views id (Live h) w at in omega arith) in
      let found : n ≡ (r.served + out) % 18446744073709551616 = ap (λ ws. get_or ws 0 0) r.words in
      let next : (((r.served + out) % 18446744073709551616) + 1) % 18446744073709551616 ≡ (r.served + out') % 18446744073709551616 =
      mod-add-mod (r.served + out) 18446744073709551616 1 ∙ ap (λ (k : ℕ). k % 18446744073709551616) (omega arith) in (
        w,
        keeps,
        tt,
        record {
          served = r.served;
          log = r.log;
          short = r.short;
          words = ap (λ ws. set ws 0 ((get_or ws 0 0 + 1) % 18446744073709551616)) r.words ∙ ap (λ (k : ℕ). k ∷ (r.served % 18446744073709551616) ∷ length r.log ∷ []) next;
          few = few_set s r id w;
          numbered = numbered_set s r id w (r.numbered id (Live h) at);
          in_line = each_set (λ _. IsInLine r.served out') s.views id w (out, omega arith, found) (λ j v _ a. in_longer r.served out out' v (omega arith) (r.in_line j v a));
          apart = apart_set s.views id w r.apart
              (λ t j v other a has_w has_v. fresh r.served s.views (few_out s r) r.in_line j v a (subst (λ (k : ℕ). HasTicket k v) (sym has_w ∙ found) has_v));
          known = known_set s r id w;
          fits = fits_set s r id w (r.fits id (Live h) at);
          gone = gone_set s r id h w at (r.gone id (Live h) at);
          slot = slot_same base entries opening r.log s.homes s.views id (Live h) w at (λ l has. absurd has) (λ has. absurd (subst (TookLog r.log) idle has)) r.slot;
        },
        refl,
      )

  -- a step that changes no word
  abbrev unmoved : (s : St) (r : Working s) (id : ℕ) (homes : List (maybe.Option (Option T))) (h : Holder B E) (w : V) → get_elem? s.views id ≡ some (Live h) → view_tickets w ≡ view_tickets (Live h) → IsNumbered (length s.views) id w
      → IsInLine r.served (tickets_out s.views) w → ((t : ℕ) → HasTicket t w → HasTicket t (Live h)) → Fits made_by opening r.log w → KeepsSpent s.views w
      → Slot base entries opening r.log homes (set s.views id w) → Working record { words = s.words; homes = homes; views = set s.views id w }
  unmoved s r id homes h w at same mine line less fit spent slot = let out : ℕ = tickets_out s.views in let out' : ℕ = tickets_out (set s.views id w) in
      let still : out' ≡ out = (let e = sum_set view_tickets s.views id (Live h) w at in omega arith) in record {
        served = r.served;
        log = r.log;
        short = r.short;
        words = r.words ∙ ap (λ (k : ℕ). ((r.served + k) % 18446744073709551616) ∷ (r.served % 18446744073709551616) ∷ length r.log ∷ []) (sym still);
        few = few_set s r id w;
        numbered = numbered_set s r id w mine;
        in_line = subst (λ (n : ℕ). (j : ℕ) (u : V) → get_elem? (set s.views id w) j ≡ some u → IsInLine r.served n u) (sym still) (each_set (λ _. IsInLine r.served out) s.views id w line (λ j u _ a. r.in_line j u a));
        apart = apart_less s.views id (Live h) w at less r.apart;
        known = known_set s r id w;
        fits = fits_set s r id w fit;
        gone = gone_set s r id h w at spent;
        slot = slot;
      }

  -- the same where the word i is written again
  unmoved_at : (i : ℕ) (words : List ℕ) (homes : List (maybe.Option (Option T))) (views : List V) → Working record { words = words; homes = homes; views = views } → Working record { words = set words i (get_or words i 0); homes = homes; views = views }
  unmoved_at i words homes views = subst (λ ws. Working record { words = ws; homes = homes; views = views }) (sym (set-get_or words i 0))

  -- the seat looks whether its ticket is served
  pub looks : (slots id : ℕ) (v : V) (cs : List (ℕ × Option T)) (t : ℕ) → IsWaiting t v → Allows Working slots id (v, cs) 1 (λ n. n) (Looks base entries made_by (v, cs))
  looks slots id Spent cs t waits = absurd waits
  looks slots id (Live h) cs t waits = λ s r deep at small. let n : ℕ = get_or s.words 1 0 in
      let found : n ≡ r.served % 18446744073709551616 = ap (λ ws. get_or ws 1 0) r.words in
      dite (ℕ_discrete n t)
      (λ is. let first : HasDrawn (r.served % 18446744073709551616) h.phase = subst (HasDrawn (r.served % 18446744073709551616)) (sym waits) (sym is ∙ found) in
      let home = home_here s r id (Live h) at first (λ l has. absurd (subst (TookLog l) waits has)) in
      let x : T = home.0 in
      let w : V = with_phase (InTurn t (entries x)) (Live h) in (
        w,
        takes 0 (Some x),
        ap (λ hs. get_elem? hs 0) home.1,
        unmoved_at 1 s.words (set s.homes 0 none) (set s.views id w) (unmoved s r id (set s.homes 0 none) h w at (sym (ap phase_tickets waits)) (r.numbered id (Live h) at) (sym is ∙ found) (λ u has. subst (HasDrawn u) (sym waits) has) (r.fits id (Live h) at) (r.gone id (Live h) at)
            (inr (ap (λ hs. set hs 0 none) home.1, (id, w, set_here s.views id w (inside s.views id (Live h) at), home.3)))),
        λ u waits'. (
          λ not. absurd (not (is ∙ ap waited (sym waits ∙ waits'))),
          λ _. (
            x,
            (r.fits id (Live h) at).0 ∙ sym home.2,
            ap (λ (k : ℕ). (with_phase (InTurn k (entries x)) (Live h), (0, Some x) ∷ cs)) (ap waited (sym waits ∙ waits')),
            subst (λ l. AgreeWith made_by l h.number h.seen h.own) (sym home.3) (r.fits id (Live h) at).1,
          ),
        ),
      ))
      (λ not. (
        Live h,
        keeps,
        tt,
        unmoved_at 1 s.words s.homes (set s.views id (Live h)) (unmoved s r id s.homes h (Live h) at refl (r.numbered id (Live h) at) (r.in_line id (Live h) at) (λ u has. has) (r.fits id (Live h) at) (r.gone id (Live h) at)
            (slot_same base entries opening r.log s.homes s.views id (Live h) (Live h) at (λ l has. has) (λ has. has) r.slot)),
        λ u waits'. (λ _. refl, λ is. absurd (not (is ∙ ap waited (sym waits' ∙ waits)))),
      ))

  -- once the seat that has the turn has w, which has none, no seat has it
  none_left : (s : St) (r : Working s) (id : ℕ) (v w : V) → get_elem? s.views id ≡ some v → HasTicket (r.served % 18446744073709551616) v → ((found : List E) → HasTurn found w → ⊥)
      → (j : ℕ) (u : V) (found : List E) → get_elem? (set s.views id w) j ≡ some u → HasTurn found u → ⊥
  none_left s r id v w at first quiet j u found a = each_set (λ _ (x : V). HasTurn found x → ⊥) s.views id w (quiet found)
      (λ i x other b has. other (r.apart i id (r.served % 18446744073709551616) x v b at (turn_first r.served (tickets_out s.views) found x (r.in_line i x b) has) first)) j u a

  put_home : (homes : List (maybe.Option (Option T))) (cs : List (ℕ × Option T)) (x : T) → homes ≡ none ∷ [] → cs ≡ (0, Some x) ∷ rest cs → put_back homes cs ≡ some (Some x) ∷ []
  put_home homes cs x empty held = ap (put_back homes) held ∙ ap (λ hs. set hs 0 (some (Some x))) empty

  -- the entry of the seat that has the turn is counted, and the slot goes home
  pub counts : (slots id : ℕ) (v : V) (cs : List (ℕ × Option T)) (t : ℕ) (found : List E) (x : T) (e : E) → IsInTurn t found v → cs ≡ (0, Some x) ∷ rest cs → HasBase (base x) v → entries x ≡ found ++ e ∷ []
      → made_by e ≡ number_of v → length (entries x) < 18446744073709551616 → Allows Working slots id (v, cs) 2 (λ n. (n + 1) % 18446744073709551616) (λ _. Counts entries made_by (v, cs))
  counts slots id Spent cs t found x e turn held based adds mine short = absurd turn
  counts slots id (Live h) cs t found x e turn held based adds mine short = λ s r deep at small.
      let w : V = with_entry t found e (Live h) in
      let here = turn_here s r id (Live h) t found at turn in
      let log' : List E = r.log ++ e ∷ [] in
      let grown : found ++ e ∷ [] ≡ log' = ap (λ l. l ++ e ∷ []) here.1 in
      let is : entries x ≡ log' = adds ∙ grown in
      let long : length log' ≡ length r.log + 1 = length-append r.log (e ∷ []) in
      let short' : length log' < 18446744073709551616 = subst (λ l. length l < 18446744073709551616) is short in
      let up : (length r.log + 1) % 18446744073709551616 ≡ length log' = mod-eq_of_lt (omega arith) ∙ sym long in
      let out : ℕ = tickets_out s.views in
      let out' : ℕ = tickets_out (set s.views id w) in
      let one : view_tickets (Live h) ≡ 1 = ap phase_tickets turn in
      let still : out' ≡ out = (let e = sum_set view_tickets s.views id (Live h) w at in omega arith) in
      let same : (r.served + out) % 18446744073709551616 ≡ (r.served + out') % 18446744073709551616 = ap (λ (k : ℕ). (r.served + k) % 18446744073709551616) (sym still) in
      let first : t ≡ r.served % 18446744073709551616 = subst (IsQueued r.served out) turn (r.in_line id (Live h) at) in
      let number = r.numbered id (Live h) at in
      let by : made_by e ≡ id = mine ∙ number.0 in
      let here_by : get_elem? s.views (made_by e) ≡ some (Live h) = ap (get_elem? s.views) by ∙ at in
      let fit = r.fits id (Live h) at in
      let spent = r.gone id (Live h) at in
      let shown : AgreeWith made_by log' h.number h.seen (h.own ++ e ∷ []) = agree_own made_by r.log h.number h.seen h.own e mine fit.1 in (
        w,
        gives,
        tt,
        record {
          served = r.served;
          log = log';
          short = short';
          words = ap (λ ws. set ws 2 ((get_or ws 2 0 + 1) % 18446744073709551616)) r.words ∙ (λ i. same i ∷ (r.served % 18446744073709551616) ∷ up i ∷ []);
          few = few_set s r id w;
          numbered = numbered_set s r id w number;
          in_line = subst (λ (n : ℕ). (j : ℕ) (u : V) → get_elem? (set s.views id w) j ≡ some u → IsInLine r.served n u) (sym still) (each_set (λ _. IsInLine r.served out) s.views id w first (λ j u _ a. r.in_line j u a));
          apart = apart_less s.views id (Live h) w at (λ u has. subst (HasDrawn u) (sym turn) has) r.apart;
          known = All-append (λ z. made_by z < length (set s.views id w)) r.log (e ∷ []) (known_set s r id w) (All-cons (λ z. made_by z < length (set s.views id w)) e [] (let less = inside s.views id (Live h) at in let long = length-set s.views id w in omega arith) (All-nil _));
          fits = each_set (λ _. Fits made_by opening log') s.views id w (fit.0, (subst (λ l. IsPrefix l log') (sym grown) (prefix_all made_by log'), shown.1), joined_push made_by opening r.log e s.views h.joined h here_by spent fit.2)
              (λ j u other a. fits_push made_by opening r.log e s.views h (length s.views) j u here_by (r.gone j u a) (r.numbered j u a) (λ is'. other (sym is' ∙ by)) (r.fits j u a));
          gone = gone_set s r id h w at spent;
          slot = inl (x, put_home s.homes cs x here.0 held, sym based ∙ fit.0, is, none_left s r id (Live h) w at here.2 (λ l has. has));
        },
        λ u l y f turn' held' adds'. let same_log : found ≡ l = ap served_log (sym turn ∙ turn') in
            let same_entry : e ≡ f = last_same found l e f (sym adds ∙ (ap entries (same_value cs x y held held') ∙ adds')) in (
              (λ i. (with_entry (served_ticket ((sym turn ∙ turn') i)) (same_log i) (same_entry i) (Live h), rest cs)),
              subst (λ (z : List E × E). AgreeWith made_by (z.0 ++ z.1 ∷ []) h.number h.seen (h.own ++ z.1 ∷ [])) (λ i. (same_log i, same_entry i)) (subst (λ z. AgreeWith made_by z h.number h.seen (h.own ++ e ∷ [])) (sym grown) shown),
            ),
      )

  -- the seat whose ticket is served lets the next one in, and has the view w, which is at rest
  leaves : (s : St) (r : Working s) (id : ℕ) (homes : List (maybe.Option (Option T))) (h : Holder B E) (w : V) → get_elem? s.views id ≡ some (Live h) → view_tickets (Live h) ≡ 1 → HasTicket (r.served % 18446744073709551616) (Live h)
      → view_tickets w ≡ 0 → ((t : ℕ) → HasTicket t w → ⊥) → ((n out : ℕ) → IsInLine n out w) → IsNumbered (length s.views) id w → Fits made_by opening r.log w → KeepsSpent s.views w
      → Slot base entries opening r.log homes (set s.views id w)
      → Working record { words = set s.words 1 ((get_or s.words 1 0 + 1) % 18446744073709551616); homes = homes; views = set s.views id w }
  leaves s r id homes h w at one first idle quiet line mine fit spent slot =
      let out : ℕ = tickets_out s.views in
      let out' : ℕ = tickets_out (set s.views id w) in
      let less : out' + 1 ≡ out = (let e = sum_set view_tickets s.views id (Live h) w at in omega arith) in
      let next : ((r.served % 18446744073709551616) + 1) % 18446744073709551616 ≡ (r.served + 1) % 18446744073709551616 = mod-add-mod r.served 18446744073709551616 1 in
      let same : (r.served + out) % 18446744073709551616 ≡ ((r.served + 1) + out') % 18446744073709551616 = ap (λ (k : ℕ). k % 18446744073709551616) (omega arith) in record {
        served = r.served + 1;
        log = r.log;
        short = r.short;
        words = ap (λ ws. set ws 1 ((get_or ws 1 0 + 1) % 18446744073709551616)) r.words ∙ (λ i. same i ∷ next i ∷ length r.log ∷ []);
        few = few_set s r id w;
        numbered = numbered_set s r id w mine;
        in_line = each_set (λ _. IsInLine (r.served + 1) out') s.views id w (line (r.served + 1) out')
            (λ j u other a. in_shorter r.served out out' u less (λ has'. other (r.apart j id (r.served % 18446744073709551616) u (Live h) a at has' first)) (r.in_line j u a));
        apart = apart_less s.views id (Live h) w at (λ u has. absurd (quiet u has)) r.apart;
        known = known_set s r id w;
        fits = fits_set s r id w fit;
        gone = gone_set s r id h w at spent;
        slot = slot;
      }

  -- the seat leaves with no entry
  pub leaves_unchanged : (slots id : ℕ) (v : V) (cs : List (ℕ × Option T)) (t : ℕ) (found : List E) (x : T) → IsInTurn t found v → cs ≡ (0, Some x) ∷ rest cs → HasBase (base x) v → entries x ≡ found
      → Allows Working slots id (v, cs) 1 (λ n. (n + 1) % 18446744073709551616) (λ _. Serves made_by (v, cs))
  leaves_unchanged slots id Spent cs t found x turn held based same = absurd turn
  leaves_unchanged slots id (Live h) cs t found x turn held based same = λ s r deep at small.
      let w : V = with_seen found (Live h) in
      let here = turn_here s r id (Live h) t found at turn in
      let fit = r.fits id (Live h) at in
      let shown : AgreeWith made_by found h.number h.seen h.own = subst (λ z. AgreeWith made_by z h.number h.seen h.own) (sym here.1) fit.1 in (
        w,
        gives,
        tt,
        leaves s r id (put_back s.homes cs) h w at (ap phase_tickets turn) here.2 refl (λ u has'. has') (λ n out. tt) (r.numbered id (Live h) at)
            (fit.0, subst (λ z. AgreeWith made_by z h.number found h.own) here.1 (agree_all made_by found h.number h.seen h.own shown), fit.2) (r.gone id (Live h) at)
            (inl (x, put_home s.homes cs x here.0 held, sym based ∙ fit.0, same ∙ here.1, none_left s r id (Live h) w at here.2 (λ l has. has))),
        (
          λ u is. absurd (turn_not_counted t u found (sym turn ∙ is)),
          λ u l turn'. let same_log : found ≡ l = ap served_log (sym turn ∙ turn') in
              (ap (λ z. (with_seen z (Live h), rest cs)) same_log, subst (λ z. AgreeWith made_by z h.number h.seen h.own) same_log shown),
        ),
      )

  -- the seat leaves after its entry was counted
  pub leaves_counted : (slots id : ℕ) (v : V) (cs : List (ℕ × Option T)) (t : ℕ) → IsCounted t v → Allows Working slots id (v, cs) 1 (λ n. (n + 1) % 18446744073709551616) (λ _. Serves made_by (v, cs))
  leaves_counted slots id Spent cs t turn = absurd turn
  leaves_counted slots id (Live h) cs t turn = λ s r deep at small.
      let w : V = with_phase Rest (Live h) in
      let first : t ≡ r.served % 18446744073709551616 = subst (IsQueued r.served (tickets_out s.views)) turn (r.in_line id (Live h) at) in
      let has : HasDrawn (r.served % 18446744073709551616) h.phase = subst (HasDrawn (r.served % 18446744073709551616)) (sym turn) first in (
        w,
        keeps,
        tt,
        leaves s r id s.homes h w at (ap phase_tickets turn) has refl (λ u has'. has') (λ n out. tt) (r.numbered id (Live h) at) (r.fits id (Live h) at) (r.gone id (Live h) at)
            (slot_same base entries opening r.log s.homes s.views id (Live h) w at (λ l has'. absurd has') (λ has'. absurd (subst (TookLog r.log) turn has')) r.slot),
        (λ u is. refl, λ u l turn'. absurd (turn_not_counted u t l (sym turn' ∙ turn))),
      )

  -- a number that was not made has no entry
  fresh_agree : (s : St) (r : Working s) (n : ℕ) → length s.views ≤ n → AgreeWith made_by r.log n [] []
  fresh_agree s r n big = ((r.log, refl), sym (none_of made_by n r.log (λ k d less. let lower = r.known k d less in (λ is. absurd (omega arith)))))

  -- the first seat makes another
  pub splits : (id : ℕ) (v : V) → IsLive 0 v → phase_of v ≡ Rest → made_of v < seats → Splits Working id v (with_one_made v) (next_seat v)
  splits id Spent live rest room = absurd live
  splits id (Live h) live rest room = λ s r at.
      let w : V = with_one_made (Live h) in
      let u : V = next_seat (Live h) in
      let vs : List V = set s.views id w in
      let known = r.numbered id (Live h) at in
      let first : id ≡ 0 = sym known.0 ∙ live in
      let made : h.made ≡ length s.views = known.1 first in
      let len = length-set s.views id w in
      let long : length (vs ++ u ∷ []) ≡ length s.views + 1 = (let e = length-append vs (u ∷ []) in omega arith) in
      let none : view_tickets (Live h) ≡ 0 = ap phase_tickets rest in
      let still : tickets_out (vs ++ u ∷ []) ≡ tickets_out s.views = (let e = sum_set view_tickets s.views id (Live h) w at in omega (arith, sum_by-append view_tickets vs (u ∷ []), sum_by-cons view_tickets u [])) in
      let few = r.few in record {
        served = r.served;
        log = r.log;
        short = r.short;
        words = r.words ∙ ap (λ (k : ℕ). ((r.served + k) % 18446744073709551616) ∷ (r.served % 18446744073709551616) ∷ length r.log ∷ []) (sym still);
        few = (omega arith, few.1);
        numbered = λ j x a. ⊎_elim (λ e. each_set (IsNumbered (length (vs ++ u ∷ []))) s.views id w (known.0, λ _. ap (λ (k : ℕ). k + 1) made ∙ sym long, known.2)
            (λ i y other e'. still_numbered (length s.views) (length (vs ++ u ∷ [])) i y (λ z. other (z ∙ sym first)) (r.numbered i y e')) j x e)
            (λ (e : (j ≡ length vs) × (u ≡ x)). subst (λ (z : ℕ × V). IsNumbered (length (vs ++ u ∷ [])) z.0 z.1) (λ i. (sym e.0 i, e.1 i)) (made ∙ sym len, λ z. absurd (omega (arith, inside s.views id (Live h) at)), λ _. refl)) (at_end vs u x j a);
        in_line = subst (λ (n : ℕ). (j : ℕ) (x : V) → get_elem? (vs ++ u ∷ []) j ≡ some x → IsInLine r.served n x) (sym still)
            (λ j x a. ⊎_elim (λ e. each_set (λ _. IsInLine r.served (tickets_out s.views)) s.views id w (r.in_line id (Live h) at) (λ i y _ e'. r.in_line i y e') j x e)
            (λ (e : (j ≡ length vs) × (u ≡ x)). subst (IsInLine r.served (tickets_out s.views)) e.1 tt) (at_end vs u x j a));
        apart = apart_snoc vs u (λ t none'. none') (apart_less s.views id (Live h) w at (λ t has. has) r.apart);
        known = λ k d less. let lower = r.known k d less in omega arith;
        fits = λ j x a. ⊎_elim (λ e. fits_set s r id w (r.fits id (Live h) at) j x e) (λ (e : (j ≡ length vs) × (u ≡ x)). subst (Fits made_by opening r.log) e.1 ((r.fits id (Live h) at).0, fresh_agree s r h.made (omega arith), All-nil _)) (at_end vs u x j a);
        gone = λ j x a. spent_more vs u x (⊎_elim (λ e. gone_set s r id h w at (r.gone id (Live h) at) j x e) (λ (e : (j ≡ length vs) × (u ≡ x)). subst (KeepsSpent vs) e.1 (All-nil _)) (at_end vs u x j a));
        slot = slot_more base entries opening r.log s.homes vs u (λ l has. has) (slot_same base entries opening r.log s.homes s.views id (Live h) w at (λ l has. has) (λ has. has) r.slot);
      }

  alone : (P : ℕ → V → Type 0) (v : V) → P 0 v → (j : ℕ) (w : V) → get_elem? (v ∷ []) j ≡ some w → P j w
  alone P v here zero w e = subst (P 0) (some-injective v w e) here
  alone P v here (suc j) w e = absurd (some-ne-none w (sym e))

  -- the rule holds at the start
  pub opens : (x : T) → base x ≡ opening → entries x ≡ [] → 1 ≤ seats → seats ≤ 64 → Working (opening_state (0 ∷ 0 ∷ 0 ∷ []) (Some x ∷ []) (newcomer 0 1 opening))
  opens x based empty low high = let v : V = newcomer 0 1 opening in record {
    served = 0;
    log = [];
    short = omega arith;
    words = refl;
    few = (omega arith, high);
    numbered = alone (IsNumbered 1) v (refl, λ _. refl, λ _. refl);
    in_line = alone (λ _. IsInLine 0 (tickets_out (v ∷ []))) v tt;
    apart = λ i j t u w at_i at_j has_u. absurd (alone (λ _ (z : V). HasTicket t z → ⊥) v (λ has. has) i u at_i has_u);
    known = All-nil _;
    fits = alone (λ _. Fits made_by opening []) v (refl, (([], refl), refl), All-nil _);
    gone = alone (λ _. KeepsSpent (v ∷ [])) v (All-nil _);
    slot = inl (x, refl, based, empty, λ j w found at. alone (λ _ (z : V). HasTurn found z → ⊥) v (λ has. has) j w at);
  }

  -- the first seat takes in another
  pub joins : (id : ℕ) (v : V) (other : ℕ) (w : V) → IsLive 0 v → IsResting v → IsResting w → Joins Working id v other w (with_joined v w) Spent
  joins id Spent other w first rest_v rest_w = absurd rest_v
  joins id (Live h) other Spent first rest_v rest_w = absurd rest_w
  joins id (Live h) other (Live k) first rest_v rest_w = λ s r at apart there.
      let both : V = with_joined (Live h) (Live k) in
      let there' : get_elem? s.views other ≡ some (Live k) = sym (set_else s.views id other both apart) ∙ there in
      let views : List V = set s.views other Spent in
      let r1 : Working record { words = s.words; homes = s.homes; views = views } =
      unmoved s r other s.homes k Spent there' (sym (ap phase_tickets rest_w)) tt tt (λ t has. absurd has) tt tt
      (slot_same base entries opening r.log s.homes s.views other (Live k) Spent there' (λ l has. absurd has) (λ has. absurd (subst (TookLog r.log) rest_w has)) r.slot) in
      let at1 : get_elem? views id ≡ some (Live h) = set_else s.views other id Spent (λ e. apart (sym e)) ∙ at in
      let fit = r.fits id (Live h) at in
      let fit_other = r.fits other (Live k) there' in
      let mine = r1.numbered id (Live h) at1 in
      let here : id ≡ 0 = sym mine.0 ∙ first in
      let number = r.numbered other (Live k) there' in
      let x : Joined B E = record { number = k.number; base = k.base; seen = k.seen; own = k.own } in
      let gone_other : get_elem? views k.number ≡ some Spent = ap (get_elem? views) number.0 ∙ set_here s.views other Spent (inside s.views other (Live k) there') in
      let r2 : Working record { words = s.words; homes = s.homes; views = set views id both } =
      unmoved record { words = s.words; homes = s.homes; views = views } r1 id s.homes h both at1 refl (mine.0, mine.1, λ more. absurd (omega arith)) (r1.in_line id (Live h) at1) (λ t has. has)
      (fit.0, fit.1, All-cons (FitsJoined made_by opening r.log) x h.joined (fit_other.0, fit_other.1) fit.2)
      (All-cons (λ (y : Joined B E). get_elem? views y.number ≡ some Spent) x h.joined gone_other (r1.gone id (Live h) at1))
      (slot_same base entries opening r.log s.homes views id (Live h) both at1 (λ l has. has) (λ has. has) r1.slot) in
      subst (λ vs. Working record { words = s.words; homes = s.homes; views = vs }) (set_comm s.views other id Spent both apart) r2

  -- where all seats are at rest in one, the slot is at home
  pub all_home : (s : St) (r : Working s) (id : ℕ) (v : V) → get_elem? s.views id ≡ some v → IsResting v → ((n : ℕ) → n < seats → HasNumber n v) → IsHome base entries opening r.log s.homes s.views
  all_home s r id Spent at resting all = absurd resting
  all_home s r id (Live h) at resting all = ⊎_elim (λ home. home)
      (λ (out : IsOut entries r.log s.homes s.views). let j : ℕ = (out.1).0 in let u : V = (out.1).1 in let inside_j = inside s.views j u (out.1).2 in let few = r.few in
      absurd (⊎_elim (λ (own : h.number ≡ j). let same : id ≡ j = sym (r.numbered id (Live h) at).0 ∙ own in
      let this : u ≡ Live h = some-injective u (Live h) (sym (out.1).2 ∙ (ap (get_elem? s.views) (sym same) ∙ at)) in subst (TookLog r.log) resting (subst (HasTurn r.log) this (out.1).3))
      (λ (x : (y : Joined B E) × Contains h.joined y × (y.number ≡ j)). let this : u ≡ Spent = some-injective u Spent (sym (out.1).2 ∙ (ap (get_elem? s.views) (sym x.2) ∙ All-contains (λ (y : Joined B E). get_elem? s.views y.number ≡ some Spent) h.joined x.0 (r.gone id (Live h) at) x.1)) in
      subst (HasTurn r.log) this (out.1).3)
      (all j (omega arith))))
      r.slot

  -- what each seat that is in one has seen
  pub agree_in : (s : St) (r : Working s) (id : ℕ) (v : V) (x : SeatFacts B E) → get_elem? s.views id ≡ some v → IsIn v x → (x.base ≡ Some opening) × AgreeWith made_by r.log x.number x.seen x.own
  agree_in s r id Spent x at has = absurd has
  agree_in s r id (Live h) x at has = let fit = r.fits id (Live h) at in ⊎_elim
      (λ (e : (h.number ≡ x.number) × (Some h.base ≡ x.base) × (h.seen ≡ x.seen) × (h.own ≡ x.own)).
      (sym e.1 ∙ ap (λ (b : B). Some b) fit.0, subst (λ (z : ℕ × (List E × List E)). AgreeWith made_by r.log z.0 z.1.0 z.1.1) (λ i. (e.0 i, (e.2 i, e.3 i))) fit.1))
      (λ (c : (y : Joined B E) × Contains h.joined y × IsOf y x). let f = All-contains (FitsJoined made_by opening r.log) h.joined c.0 fit.2 c.1 in let e = c.2 in
      (sym e.1 ∙ ap (λ (b : B). Some b) f.0, subst (λ (z : ℕ × (List E × List E)). AgreeWith made_by r.log z.0 z.1.0 z.1.1) (λ i. (e.0 i, (e.2 i, e.3 i))) f.1))
      has

  -- the value comes out of the slot with the log, which all seats know
  pub closes : (ws : List ℕ) (xs : List (Option T)) (id : ℕ) (v : V) (rows : List (SeatFacts B E)) (slot : Option T) → Final (Seen Working id v) ws xs → IsResting v → All (IsIn v) rows → HasEachSeat seats rows
      → get_elem? xs 0 ≡ some slot
      → (x : T) × (slot ≡ Some x) × (base x ≡ opening) × All (λ s. s.base ≡ Some opening) rows × All (λ s. AgreeWith made_by (entries x) s.number s.seen s.own) rows × All (λ e. made_by e < seats) (entries x)
  closes ws xs id v rows slot final resting inside_v all taken = let s : St = final.0 in let r : Working s = final.1.0 in let at = final.1.1 in
      let home = all_home s r id v at resting (λ n less. number_in v rows n inside_v (all n less)) in
      let x : T = home.0 in
      let few = r.few in (
        x,
        some-injective slot (Some x) (sym taken ∙ final.4 0 (Some x) (ap (λ hs. get_elem? hs 0) home.1)),
        home.2,
        λ k d less. (agree_in s r id v (get_or rows k d) at (inside_v k d less)).0,
        subst (λ l. All (λ s. AgreeWith made_by l s.number s.seen s.own) rows) (sym home.3) (λ k d less. (agree_in s r id v (get_or rows k d) at (inside_v k d less)).1),
        subst (λ l. All (λ e. made_by e < seats) l) (sym home.3) (λ k d less. let lower = r.known k d less in omega arith),
      )
