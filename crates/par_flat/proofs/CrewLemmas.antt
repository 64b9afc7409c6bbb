-- Lines that are exchanged.
use Rattle.std.proofs.Common.{◌≡◌, ◌<◌, ◌≤◌, ◌+◌, ◌*◌, ◌⊎◌, inl, inr, ℕ, List, [], ◌∷◌, length, get_or, set, drop, refl, sym, ap, subst, ◌∙◌, arith, Option}
use Rattle.std.specs.Prelude.{IfOk}
use Rattle.std.specs.Option.{ForSome}
use Rattle.std.proofs.lemmas.Bool.{cases_lt}
use Rattle.std.proofs.lemmas.List.{get_or-set_other, get_or-set_same, get_or_default, length-set}
use Rattle.std.proofs.Math.Nat.{eq-or-lt_of_le}
use Rattle.netlist_schema.specs.Design.{Design}
use Rattle.flat_spec.specs.Types.{Item}
use Rattle.par_flat.specs.Desks.{AreDesks, AreMade, AreParts, IsDesk, IsMade, IsSeat}
use Rattle.par_flat.specs.declared.desks.Desk.{Desk}
use Rattle.par_flat.specs.declared.desks.Lines.{Lines}
use Rattle.par_flat.specs.declared.desks.Most.{Most}
use Rattle.par_flat.specs.declared.desks.Seat.{Seat}

-- the first so many workers gave their lines, and those behind them have theirs
pub record AreExchanged (old : List Desk) (n : ℕ) (desks : List Desk) (waiting : List Lines) : Type 0 where
  pub desks_len : length desks ≡ length old
  pub waiting_len : length waiting ≡ length old
  pub given : (k : ℕ) (lines : Lines) (desk : Desk) → k < n → n ≤ length old → get_or waiting k lines ≡ (get_or old k desk).lines
  pub rest : (k : ℕ) (desk : Desk) → n ≤ k → get_or desks k desk ≡ get_or old k desk
  pub workers : (k : ℕ) (desk : Desk) → k < length old → (get_or desks k desk).worker ≡ (get_or old k desk).worker
  pub seats : (k : ℕ) (desk : Desk) → k < length old → (get_or desks k desk).seat ≡ (get_or old k desk).seat

pub none_exchanged : (old : List Desk) (waiting : List Lines) (n : ℕ) → n ≡ 0 → length waiting ≡ length old → AreExchanged old n old waiting
none_exchanged old waiting n is long = record {
  desks_len = refl;
  waiting_len = long;
  given = λ k lines desk less within. absurd (omega (arith, less, is));
  rest = λ k desk more. refl;
  workers = λ k desk within. refl;
  seats = λ k desk within. refl;
}

-- one worker more
module _ (old : List Desk) (n : ℕ) (desks : List Desk) (waiting : List Lines) (before after : Desk) (lines : Lines) (within : n < length old) (are : AreExchanged old n desks waiting)
    (is : before ≡ get_or desks n before) (taken : lines ≡ before.lines) where
  here : n < length desks
  here = let long = are.desks_len in omega (arith, within, long)

  same_before : (desk : Desk) → get_or old n desk ≡ before
  same_before desk = get_or_default old n desk before within ∙ sym (are.rest n before (omega arith)) ∙ sym is

  kept : {A : Type 0} (f : Desk → A) → f after ≡ f before → ((k : ℕ) (desk : Desk) → k < length old → f (get_or desks k desk) ≡ f (get_or old k desk))
      → (k : ℕ) (desk : Desk) → k < length old → f (get_or (set desks n after) k desk) ≡ f (get_or old k desk)
  kept f same each k desk inside = either (cases_lt k n)
    where
      other : (k ≡ n → ⊥) → f (get_or (set desks n after) k desk) ≡ f (get_or old k desk)
      other differs = ap f (get_or-set_other desks n k after desk differs) ∙ each k desk inside

      late : (k ≡ n) ⊎ (n < k) → f (get_or (set desks n after) k desk) ≡ f (get_or old k desk)
      late (inl at) =
          ap (λ m. f (get_or (set desks n after) m desk)) at ∙ ap f (get_or-set_same desks n after desk here) ∙ same ∙ ap f (sym (same_before desk))
          ∙ ap (λ m. f (get_or old m desk)) (sym at)
      late (inr more) = other (λ at. absurd (omega (arith, more, at)))

      either : (k < n) ⊎ (n ≤ k) → f (get_or (set desks n after) k desk) ≡ f (get_or old k desk)
      either (inl less) = other (λ at. absurd (omega (arith, less, at)))
      either (inr low) = late (turned (eq-or-lt_of_le low))
        where
          turned : (n ≡ k) ⊎ (n < k) → (k ≡ n) ⊎ (n < k)
          turned (inl at) = inl (sym at)
          turned (inr more) = inr more

  gave : (k : ℕ) (other : Lines) (desk : Desk) → (k ≡ n) ⊎ (k < n) → get_or (set waiting n lines) k other ≡ (get_or old k desk).lines
  gave k other desk (inl at) =
      ap (λ m. get_or (set waiting n lines) m other) at ∙ get_or-set_same waiting n lines other (let long = are.waiting_len in omega (arith, within, long)) ∙ taken
      ∙ ap (λ (v : Desk). v.lines) (sym (same_before desk) ∙ ap (λ m. get_or old m desk) (sym at))
  gave k other desk (inr less) =
      get_or-set_other waiting n k lines other (λ at. absurd (omega (arith, less, at))) ∙ are.given k other desk less (omega (arith, within))

  pub one_exchanged : after.worker ≡ before.worker → after.seat ≡ before.seat → AreExchanged old (n + 1) (set desks n after) (set waiting n lines)
  one_exchanged worker seat = record {
    desks_len = length-set desks n after ∙ are.desks_len;
    waiting_len = length-set waiting n lines ∙ are.waiting_len;
    given = λ k other desk less low. gave k other desk (eq-or-lt_of_le (omega (arith, less)));
    rest = λ k desk more. get_or-set_other desks n k after desk (λ at. absurd (omega (arith, more, at))) ∙ are.rest k desk (omega (arith, more));
    workers = kept (λ (v : Desk). v.worker) worker are.workers;
    seats = kept (λ (v : Desk). v.seat) seat are.seats;
  }

-- the desks of workers are those of the same workers, who stand where they stood
pub desks_exchanged : (d : Design) (old : List Desk) (n : ℕ) (desks : List Desk) (waiting : List Lines) → AreExchanged old n desks waiting → AreDesks d old → AreDesks d desks
desks_exchanged d old n desks waiting are were worker desk within =
    let inside : worker < length old = (let long = are.desks_len in omega (arith, within, long)) in
    let before : IsDesk d worker (get_or old worker desk) = were worker desk inside in
    record {
      worker_is = are.workers worker desk inside ∙ before.worker_is;
      seat = subst (λ (s : Option Seat). ForSome s (IsSeat d)) (sym (are.seats worker desk inside)) before.seat;
    }

-- the lines that were made are parts, where each worker's were given
pub given_parts : (d : Design) (items : List Item) (most : Most) (old : List Desk) (waiting : List Lines) → length waiting ≡ length old
    → ((w : ℕ) (lines : Lines) (desk : Desk) → w < length old → get_or waiting w lines ≡ (get_or old w desk).lines) → AreMade d items most old → AreParts d items most waiting
given_parts d items most [] waiting long given made worker lines within = absurd (omega (arith, within, long))
given_parts d items most (first ∷ rest) waiting long given made worker lines within =
    let inside : worker < length (first ∷ rest) = omega (arith, within, long) in
    subst (λ (v : Lines). IsMade d (drop (worker * most.items) items) most v) (sym (given worker lines first inside)) (made worker first inside)

-- and none has more items than it might
pub given_few : (most : ℕ) (old : List Desk) (waiting : List Lines) → length waiting ≡ length old
    → ((w : ℕ) (lines : Lines) (desk : Desk) → w < length old → get_or waiting w lines ≡ (get_or old w desk).lines)
    → ((w : ℕ) (desk : Desk) → w < length old → IfOk (get_or old w desk).lines.made (λ count. count ≤ most))
    → (w : ℕ) (lines : Lines) → w < length waiting → IfOk (get_or waiting w lines).made (λ count. count ≤ most)
given_few most [] waiting long given few w lines within = absurd (omega (arith, within, long))
given_few most (first ∷ rest) waiting long given few w lines within =
    let inside : w < length (first ∷ rest) = omega (arith, within, long) in
    subst (λ (v : Lines). IfOk v.made (λ count. count ≤ most)) (sym (given w lines first inside)) (few w first inside)
