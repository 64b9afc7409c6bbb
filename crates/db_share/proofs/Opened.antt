-- A new database and its passes.
use Rattle.std.proofs.Common.{◌≡◌, ◌<◌, ℕ, List, ◌++◌, length, slice_get, Some, refl, ap, sym, ◌∙◌, subst, arith, append_assoc}
use Rattle.std.proofs.lemmas.List.Elements.{All-nil}
use mathlib.Core.List.{IsPrefix}
use Rattle.netlist_schema.specs.Design.{Design}
use Rattle.netlist_schema.specs.Valid.{IsValid}
use Rattle.db_spec.specs.declared.event.Event.{Event}
use Rattle.db_spec.specs.Laws.{IsTypedCall}
use Rattle.turn_cell.specs.Seats.{new_seat}
use Rattle.turn_cell.proofs.Rows.{got_at, has_each}
use Rattle.db_share.specs.Passes.{Shared, Pass, IsReady, new_pass}
use Rattle.db_share.specs.Calls.{Opens, GoesOn}

pub new_is_ready : (db : Shared) (number : ℕ) → IsValid db.base → IsReady db (new_pass db number)
new_is_ready db number valid =
    record { turn = refl; base = refl; rest = refl; history = record { valid = valid; legal = tt; typed = All-nil (λ (event : Event). IsTypedCall event.call) }; own = refl }

pub opens : (design : Design) (callers : ℕ) (db : Shared) (passes : List Pass) (base : Design) → IsValid base → base ≡ design → db.seats ≡ callers → db.base ≡ base → length passes ≡ callers
    → ((k : ℕ) → k < callers → slice_get passes k ≡ Some (new_seat db.id k base)) → Opens design callers db passes
opens design callers db passes base valid is seats based many each =
    let all : (k : ℕ) → k < callers → slice_get passes k ≡ Some (new_pass db k) = λ k less. each k less ∙ ap (λ (b : Design). Some (new_seat db.id k b)) (sym based) in record {
      base = based ∙ is;
      seats = seats;
      many = many;
      each = all;
      ready = λ k d less. subst (IsReady db) (sym (got_at passes k (new_pass db k) d (all k (omega (arith, less, many))))) (new_is_ready db k (subst IsValid (sym based) valid));
      all = has_each passes db.seats (many ∙ sym seats, λ k d less. ap (λ (p : Pass). p.number) (got_at passes k (new_pass db k) d (all k (subst (λ (n : ℕ). k < n) seats less))));
    }

prefix_twice : (xs ys zs : List Event) → IsPrefix xs ys → IsPrefix ys zs → IsPrefix xs zs
prefix_twice xs ys zs p q = (p.0 ++ q.0, sym (append_assoc xs p.0 q.0) ∙ (ap (λ (ws : List Event). ws ++ q.0) p.1 ∙ q.1))

pub goes_on_twice : (db : Shared) (first second third : Pass) → GoesOn db first second → GoesOn db second third → GoesOn db first third
goes_on_twice db first second third p q = record { ready = q.ready; number = q.number ∙ p.number; seen = prefix_twice first.seen second.seen third.seen p.seen q.seen }
