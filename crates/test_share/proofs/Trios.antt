-- The callers of a database of three.
use Rattle.std.proofs.Common.{◌≡◌, ◌<◌, ℕ, zero, suc, List, [], ◌∷◌, ◌++◌, All, length, length-append, get_or, slice_get, Some, None, ap, sym, ◌∙◌, subst, arith}
use Rattle.std.proofs.lemmas.List.Elements.{All-cons, All-head, All-nil, All-tail}
use Rattle.netlist_schema.specs.Design.{Design}
use Rattle.db_spec.proofs.Lists.{in_head, in_tail}
use Rattle.turn_cell.specs.Seats.{HasEachSeat, HasSeat}
use Rattle.turn_cell.proofs.Facts.{some_same}
use Rattle.db_share.specs.Passes.{Shared, Pass, IsReady, new_pass}
use Rattle.db_share.specs.Calls.{Opens}
use Rattle.test_share.specs.Callers.{GoesTo, HasOpen}
use Rattle.test_share.specs.Trios.{AreReady, CanGo}
use Rattle.test_share.specs.declared.callers.Caller.{Caller}
use Rattle.test_share.specs.declared.callers.Trio.{Trio}

-- a list of three, from its last elements
pub three : {T : Type 0} (xs ys zs ws : List T) (a b c : T) → length xs ≡ 3 → xs ≡ ys ++ c ∷ [] → ys ≡ zs ++ b ∷ [] → zs ≡ ws ++ a ∷ [] → xs ≡ a ∷ b ∷ c ∷ []
three {T} xs ys zs ws a b c many last middle first = at ws whole
  where
    whole : xs ≡ ((ws ++ a ∷ []) ++ b ∷ []) ++ c ∷ []
    whole = last ∙ ap (λ (l : List T). l ++ c ∷ []) (middle ∙ ap (λ (l : List T). l ++ b ∷ []) first)

    at : (vs : List T) → xs ≡ ((vs ++ a ∷ []) ++ b ∷ []) ++ c ∷ [] → xs ≡ a ∷ b ∷ c ∷ []
    at [] is = is
    at (v ∷ vs) is = absurd (too_many (sym (ap length is) ∙ many))
      where
        too_many : length (v ∷ (((vs ++ a ∷ []) ++ b ∷ []) ++ c ∷ [])) ≡ 3 → ⊥
        too_many e =
            let one = length-append ((vs ++ a ∷ []) ++ b ∷ []) (c ∷ []) in
            let two = length-append (vs ++ a ∷ []) (b ∷ []) in
            let three = length-append vs (a ∷ []) in
            omega (arith, one, two, three, e)

-- ready for steps
abbrev pub MayStep : Shared → Caller → Type 0
MayStep db c = IsReady db c.pass × HasOpen db c.pass c.tx

abbrev pub EachGoes : Shared → List Caller → List Caller → Type 0
EachGoes db old new = (k : ℕ) (d : Caller) → k < length old → GoesTo db (get_or old k d).pass (get_or new k d).pass (get_or new k d).tx

-- after steps
pub gone : (db : Shared) (number : ℕ) (old new : Caller) → CanGo db number old → GoesTo db old.pass new.pass new.tx → CanGo db number new
gone db number old new can goes = record { ready = goes.ready; number_is = goes.number ∙ can.number_is; held = goes.pin }

module _ (db : Shared) (trio : Trio) (are : AreReady db trio) where
  pub may_step : (xs : List Caller) → xs ≡ trio.first ∷ trio.second ∷ trio.idle ∷ [] → All (MayStep db) xs
  may_step xs is = subst (λ (l : List Caller). All (MayStep db) l) (sym is)
      (All-cons (MayStep db) trio.first (trio.second ∷ trio.idle ∷ []) (are.first.ready, are.first.held)
      (All-cons (MayStep db) trio.second (trio.idle ∷ []) (are.second.ready, are.second.held)
      (All-cons (MayStep db) trio.idle [] (are.idle.ready, are.idle.held) (All-nil (MayStep db)))))

  pub all_gone : (new : Trio) (xs ys : List Caller) → xs ≡ trio.first ∷ trio.second ∷ trio.idle ∷ [] → ys ≡ new.first ∷ new.second ∷ new.idle ∷ [] → EachGoes db xs ys → AreReady db new
  all_gone new xs ys was now each =
      let olds = trio.first ∷ trio.second ∷ trio.idle ∷ [] in
      let news = new.first ∷ new.second ∷ new.idle ∷ [] in
      let goes : EachGoes db olds news = subst (λ (l : List Caller). EachGoes db l news) was (subst (λ (l : List Caller). EachGoes db xs l) now each) in record {
        seats = are.seats;
        first = gone db 0 trio.first new.first are.first (goes 0 trio.first (omega arith));
        second = gone db 1 trio.second new.second are.second (goes 1 trio.first (omega arith));
        idle = gone db 2 trio.idle new.idle are.idle (goes 2 trio.first (omega arith));
      }

  pub all_ready : (xs : List Pass) → xs ≡ trio.first.pass ∷ trio.second.pass ∷ trio.idle.pass ∷ [] → All (IsReady db) xs
  all_ready xs is = subst (λ (l : List Pass). All (IsReady db) l) (sym is)
      (All-cons (IsReady db) trio.first.pass (trio.second.pass ∷ trio.idle.pass ∷ []) are.first.ready
      (All-cons (IsReady db) trio.second.pass (trio.idle.pass ∷ []) are.second.ready
      (All-cons (IsReady db) trio.idle.pass [] are.idle.ready (All-nil (IsReady db)))))

  pub each_seat : (xs : List Pass) → xs ≡ trio.first.pass ∷ trio.second.pass ∷ trio.idle.pass ∷ [] → HasEachSeat db.seats xs
  each_seat xs is = subst (λ (l : List Pass). HasEachSeat db.seats l) (sym is) (λ n less. at n (subst (λ (k : ℕ). n < k) are.seats less))
    where
      a : Pass
      a = trio.first.pass

      b : Pass
      b = trio.second.pass

      c : Pass
      c = trio.idle.pass

      at : (n : ℕ) → n < 3 → HasSeat (a ∷ b ∷ c ∷ []) n
      at zero low = (a, in_head a (b ∷ c ∷ []), are.first.number_is)
      at (suc zero) low = (b, in_tail a b (b ∷ c ∷ []) (in_head b (c ∷ [])), are.second.number_is)
      at (suc (suc zero)) low = (c, in_tail a c (b ∷ c ∷ []) (in_tail b c (c ∷ []) (in_head c [])), are.idle.number_is)
      at (suc (suc (suc k))) low = absurd (omega (arith, low))

-- the callers of a new database
pub opened : (design : Design) (db : Shared) (xs : List Pass) (a b c : Pass) → Opens design 3 db xs → xs ≡ a ∷ b ∷ c ∷ []
    → AreReady db (record { first = record { pass = a; tx = None }; second = record { pass = b; tx = None }; idle = record { pass = c; tx = None } })
opened design db xs a b c opens is =
    let ready : All (IsReady db) (a ∷ b ∷ c ∷ []) = subst (All (IsReady db)) is opens.ready in
    let at : (k : ℕ) → k < 3 → slice_get (a ∷ b ∷ c ∷ []) k ≡ Some (new_pass db k) = λ k less. ap (λ (l : List Pass). slice_get l k) (sym is) ∙ opens.each k less in
    let behind = All-tail (IsReady db) a (b ∷ c ∷ []) ready in record {
      seats = opens.seats;
      first = record { ready = All-head (IsReady db) a (b ∷ c ∷ []) ready; number_is = ap (λ (p : Pass). p.number) (some_same a (new_pass db 0) (at 0 (omega arith))); held = tt };
      second = record { ready = All-head (IsReady db) b (c ∷ []) behind; number_is = ap (λ (p : Pass). p.number) (some_same b (new_pass db 1) (at 1 (omega arith))); held = tt };
      idle = record {
        ready = All-head (IsReady db) c [] (All-tail (IsReady db) b (c ∷ []) behind);
        number_is = ap (λ (p : Pass). p.number) (some_same c (new_pass db 2) (at 2 (omega arith)));
        held = tt;
      };
    }
