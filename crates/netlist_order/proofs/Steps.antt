-- Each step keeps what is marked in line with the cells that are written.
use Rattle.std.proofs.Common.{◌≡◌, ◌≢◌, ℕ, zero, suc, ◌<◌, ◌≤◌, List, [], ◌∷◌, ◌++◌, length, refl, ap, sym, ◌∙◌, subst, ◌⊎◌, ⊎_elim, inl, inr, Bool, true, false, not, Some, arith, slice_get}
use Rattle.std.specs.Prelude.{◌||◌, cond, nat_eq}
use Rattle.std.specs.List.{AllByRecursion, list_all, list_any}
use Rattle.std.proofs.lemmas.Bool.{and_from, and_parts, or_parts, cases_order, eqb-true, eqb-false, eq-eqb}
use Rattle.netlist_schema.proofs.Lists.{get_there, all_push, all_weaker}
use Rattle.netlist_order_spec.specs.Order.{is_written}
use Rattle.netlist_schema.specs.Design.{insts_of}
use Rattle.netlist_schema.specs.Types.{CellBody, Inst}
use Rattle.netlist_order.specs.ReadyQueue.{Fits, IsKept, IsNext, IsWaiting, WaitsFor, AllPast, first_cells, is_past, names, at_ready, at_child, at_hand}
use Rattle.netlist_order.specs.declared.ready_queue.Waiting.{Waiting}
use Rattle.netlist_order.proofs.Lists.{any_left, any_right, any_none, any_front, all_from_places}
use Rattle.netlist_order.proofs.Search.{not_ready}

cases : (a b : ℕ) → (a < b) ⊎ (b ≤ a)
cases a b = ⊎_elim
    (λ (e : a ≡ b). inr (omega (arith, e)))
    (λ (o : (a < b) ⊎ (b < a)). ⊎_elim (λ (l : a < b). inl l) (λ (l : b < a). inr (omega (arith, l))) o)
    (cases_order a b)

apart : (s n : ℕ) → nat_eq s n ≡ false → s < suc n → s < n
apart s n e l = let d : s ≢ n = eqb-false s n e in omega (arith, d, l)

-- the parts of an instance's test
past_parts : (own : ℕ) (f : ℕ → Bool) (i : Inst) → is_past own f i ≡ false → (i.of.lib.0 ≡ own) × (f i.of.slot ≡ false)
past_parts own f i h = go (nat_eq i.of.lib.0 own) refl h
  where
    go : (b : Bool) → nat_eq i.of.lib.0 own ≡ b → (not b || f i.of.slot) ≡ false → (i.of.lib.0 ≡ own) × (f i.of.slot ≡ false)
    go true e h = (eqb-true i.of.lib.0 own e, h)
    go false e h = absurd (cc h)

-- one more cell is written
written_more : (own : ℕ) (done : List ℕ) (k : ℕ) (i : Inst) → is_written own done i ≡ true → is_written own (done ++ k ∷ []) i ≡ true
written_more own done k i h = go (not (nat_eq i.of.lib.0 own)) h
  where
    go : (b : Bool) → (b || list_any (nat_eq i.of.slot) done) ≡ true → (b || list_any (nat_eq i.of.slot) (done ++ k ∷ [])) ≡ true
    go true h = refl
    go false h = any_left (nat_eq i.of.slot) done (k ∷ []) h

still_missing : (own : ℕ) (done : List ℕ) (k : ℕ) (i : Inst) → is_written own done i ≡ false → nat_eq i.of.slot k ≡ false → is_written own (done ++ k ∷ []) i ≡ false
still_missing own done k i h n =
    let t = or_parts (not (nat_eq i.of.lib.0 own)) (list_any (nat_eq i.of.slot) done) h in
    ap (λ b. b || list_any (nat_eq i.of.slot) (done ++ k ∷ [])) t.0 ∙ any_none (nat_eq i.of.slot) done k t.1 n

all_written_more : (own : ℕ) (done : List ℕ) (k : ℕ) (is : List Inst) → list_all (is_written own done) is ≡ true → list_all (is_written own (done ++ k ∷ [])) is ≡ true
all_written_more own done k [] h = refl
all_written_more own done k (i ∷ is) h =
    let t = and_parts (is_written own done i) (list_all (is_written own done) is) h in
    and_from (is_written own (done ++ k ∷ []) i) (list_all (is_written own (done ++ k ∷ [])) is) (written_more own done k i t.0) (all_written_more own done k is t.1)

-- the written cell did not wait
waiter_differs : (own : ℕ) (cells : List CellBody) (done : List ℕ) (t k : ℕ) (w : Waiting) → IsNext own cells done k → WaitsFor own cells done t w → nat_eq w.slot k ≡ false
waiter_differs own cells done t k w n h = go (nat_eq w.slot k) refl
  where
    go : (b : Bool) → nat_eq w.slot k ≡ b → b ≡ false
    go false e = refl
    go true e = let q : w.slot ≡ k = eqb-true w.slot k e in absurd (not_ready own cells done t k n.cell w h (eq-eqb k w.slot (sym q)) n.there n.ready)

abbrev still_waiting : (own : ℕ) (cells : List CellBody) (done : List ℕ) (t k : ℕ) (w : Waiting) → IsNext own cells done k → WaitsFor own cells done t w → IsWaiting own cells (done ++ k ∷ []) w
still_waiting own cells done t k w n h = record {
  cell = h.waiting.cell;
  there = h.waiting.there;
  new = any_none (nat_eq w.slot) done k h.waiting.new (waiter_differs own cells done t k w n h);
  passed = λ j i l e. written_more own done k i (h.waiting.passed j i l e);
}

still_for : (own : ℕ) (cells : List CellBody) (done : List ℕ) (t k : ℕ) (w : Waiting) → IsNext own cells done k → nat_eq t k ≡ false → WaitsFor own cells done t w → WaitsFor own cells (done ++ k ∷ []) t w
still_for own cells done t k w n d h = record {
  waiting = still_waiting own cells done t k w n h;
  inst = h.inst;
  at = h.at;
  missing = still_missing own done k h.inst h.missing (ap (λ v. nat_eq v k) h.child_is ∙ d);
  child_is = h.child_is;
}

-- a cell is written, and those that waited for it have no place
pub taken : (own : ℕ) (cells : List CellBody) (done : List ℕ) (k : ℕ) (flag has flag' has' : ℕ → Bool) (waits waits' : ℕ → List Waiting) → Fits own cells done [] flag has waits → has k ≡ true
    → ((s : ℕ) → flag' s ≡ cond (nat_eq s k) true (flag s)) → ((s : ℕ) → has' s ≡ cond (nat_eq s k) false (has s)) → ((t : ℕ) → waits' t ≡ cond (nat_eq t k) [] (waits t))
    → Fits own cells (done ++ k ∷ []) (waits k) flag' has' waits'
taken own cells done k flag has flag' has' waits waits' h marked f g w = record {
  flags = λ s. f s ∙ flags (nat_eq s k) s refl;
  sound = λ s e. sound (nat_eq s k) s refl (sym (g s) ∙ e);
  parked = λ t. subst (λ (ws : List Waiting). AllByRecursion (WaitsFor own cells (done ++ k ∷ []) t) ws) (sym (w t)) (parked_at (nat_eq t k) t refl);
  unplaced = all_weaker (WaitsFor own cells done k) (IsWaiting own cells (done ++ k ∷ [])) (waits k) (λ v u. still_waiting own cells done k k v next u) (h.parked k);
  kept = λ s l e. let t = any_front (nat_eq s) done k e in kept s t.1 (h.kept s l t.0);
}
  where
    next : IsNext own cells done k
    next = h.sound k marked

    flags : (b : Bool) (s : ℕ) → nat_eq s k ≡ b → cond b true (flag s) ≡ list_any (nat_eq s) (done ++ k ∷ [])
    flags true s e = sym (any_right (nat_eq s) done (k ∷ []) (ap (λ b. b || false) e))
    flags false s e = h.flags s ∙ same (list_any (nat_eq s) done) refl
      where
        same : (b : Bool) → list_any (nat_eq s) done ≡ b → list_any (nat_eq s) done ≡ list_any (nat_eq s) (done ++ k ∷ [])
        same true d = d ∙ sym (any_left (nat_eq s) done (k ∷ []) d)
        same false d = d ∙ sym (any_none (nat_eq s) done k d e)

    sound : (b : Bool) (s : ℕ) → nat_eq s k ≡ b → cond b false (has s) ≡ true → IsNext own cells (done ++ k ∷ []) s
    sound true s e q = absurd (cc q)
    sound false s e q =
        let n = h.sound s q in
        let t = and_parts (not (list_any (nat_eq s) done)) (list_all (is_written own done) (insts_of n.cell)) n.ready in
        record {
          cell = n.cell;
          there = n.there;
          ready = and_from (not (list_any (nat_eq s) (done ++ k ∷ []))) (list_all (is_written own (done ++ k ∷ [])) (insts_of n.cell))
              (new (list_any (nat_eq s) done) refl t.0) (all_written_more own done k (insts_of n.cell) t.1);
        }
      where
        new : (b : Bool) → list_any (nat_eq s) done ≡ b → not b ≡ true → not (list_any (nat_eq s) (done ++ k ∷ [])) ≡ true
        new true d q = absurd (cc q)
        new false d q = ap not (any_none (nat_eq s) done k d e)

    parked_at : (b : Bool) (t : ℕ) → nat_eq t k ≡ b → AllByRecursion (WaitsFor own cells (done ++ k ∷ []) t) (cond b [] (waits t))
    parked_at true t e = tt
    parked_at false t e = all_weaker (WaitsFor own cells done t) (WaitsFor own cells (done ++ k ∷ []) t) (waits t) (λ v u. still_for own cells done t k v next e u) (h.parked t)

    kept : (s : ℕ) → nat_eq s k ≡ false → IsKept has waits [] s → IsKept has' waits' (waits k) s
    kept s e (at_ready q) = at_ready (g s ∙ (ap (λ b. cond b false (has s)) e ∙ q))
    kept s e (at_child t q) = at (nat_eq t k) refl
      where
        at : (b : Bool) → nat_eq t k ≡ b → IsKept has' waits' (waits k) s
        at true d = let u : t ≡ k = eqb-true t k d in at_hand (ap (λ v. names s (waits v)) (sym u) ∙ q)
        at false d = at_child t (ap (names s) (w t ∙ ap (λ b. cond b [] (waits t)) d) ∙ q)
    kept s e (at_hand q) = absurd (cc q)

-- a cell that waits for nothing is ready
pub made_ready : (own : ℕ) (cells : List CellBody) (done : List ℕ) (v : Waiting) (pending : List Waiting) (c : CellBody) (flag has flag' has' : ℕ → Bool) (waits waits' : ℕ → List Waiting)
    → slice_get cells v.slot ≡ Some c → AllPast own flag (insts_of c) v.from (length (insts_of c))
    → ((s : ℕ) → flag' s ≡ flag s) → ((s : ℕ) → has' s ≡ cond (nat_eq s v.slot) true (has s)) → ((t : ℕ) → waits' t ≡ waits t)
    → Fits own cells done (v ∷ pending) flag has waits → Fits own cells done pending flag' has' waits'
made_ready own cells done v pending c flag has flag' has' waits waits' there past f g w h = record {
  flags = λ s. f s ∙ h.flags s;
  sound = λ s e. sound (nat_eq s v.slot) s refl (sym (g s) ∙ e);
  parked = λ t. subst (λ (ws : List Waiting). AllByRecursion (WaitsFor own cells done t) ws) (sym (w t)) (h.parked t);
  unplaced = h.unplaced.1;
  kept = λ s l e. kept s (h.kept s l e);
}
  where
    same : h.unplaced.0.cell ≡ c
    same = cc (h.unplaced.0.there, there)

    written : (j : ℕ) (i : Inst) → j < length (insts_of c) → slice_get (insts_of c) j ≡ Some i → is_written own done i ≡ true
    written j i l e = at (cases j v.from)
      where
        at : (j < v.from) ⊎ (v.from ≤ j) → is_written own done i ≡ true
        at (inl m) = h.unplaced.0.passed j i m (ap (λ (x : CellBody). slice_get (insts_of x) j) same ∙ e)
        at (inr m) = ap (λ b. not (nat_eq i.of.lib.0 own) || b) (sym (h.flags i.of.slot)) ∙ past j i m l e

    sound : (b : Bool) (s : ℕ) → nat_eq s v.slot ≡ b → cond b true (has s) ≡ true → IsNext own cells done s
    sound false s e q = h.sound s q
    sound true s e q =
        let u : v.slot ≡ s = sym (eqb-true s v.slot e) in
        subst (λ n. IsNext own cells done n) u record {
          cell = c;
          there = there;
          ready = and_from (not (list_any (nat_eq v.slot) done)) (list_all (is_written own done) (insts_of c)) (ap not h.unplaced.0.new) (all_from_places (is_written own done) (insts_of c) written);
        }

    kept : (s : ℕ) → IsKept has waits (v ∷ pending) s → IsKept has' waits' pending s
    kept s (at_ready q) = at_ready (g s ∙ at (nat_eq s v.slot))
      where
        at : (b : Bool) → cond b true (has s) ≡ true
        at true = refl
        at false = q
    kept s (at_child t q) = at_child t (ap (names s) (w t) ∙ q)
    kept s (at_hand q) = at (nat_eq s v.slot) refl q
      where
        at : (b : Bool) → nat_eq s v.slot ≡ b → (b || names s pending) ≡ true → IsKept has' waits' pending s
        at true e q = at_ready (g s ∙ ap (λ b. cond b true (has s)) e)
        at false e q = at_hand q

-- a cell waits for a child
pub made_wait : (own : ℕ) (cells : List CellBody) (done : List ℕ) (v : Waiting) (pending : List Waiting) (c : CellBody) (inst : Inst) (from : ℕ) (flag has flag' has' : ℕ → Bool) (waits waits' : ℕ → List Waiting)
    → slice_get cells v.slot ≡ Some c → slice_get (insts_of c) from ≡ Some inst → is_past own flag inst ≡ false → AllPast own flag (insts_of c) v.from from
    → ((s : ℕ) → flag' s ≡ flag s) → ((s : ℕ) → has' s ≡ has s)
    → ((t : ℕ) → waits' t ≡ cond (nat_eq t inst.of.slot) (waits inst.of.slot ++ record { slot = v.slot; from = from } ∷ []) (waits t))
    → Fits own cells done (v ∷ pending) flag has waits → Fits own cells done pending flag' has' waits'
made_wait own cells done v pending c inst from flag has flag' has' waits waits' there at missing past f g w h = record {
  flags = λ s. f s ∙ h.flags s;
  sound = λ s e. h.sound s (sym (g s) ∙ e);
  parked = λ t. subst (λ (ws : List Waiting). AllByRecursion (WaitsFor own cells done t) ws) (sym (w t)) (parked_at (nat_eq t inst.of.slot) t refl);
  unplaced = h.unplaced.1;
  kept = λ s l e. kept s (h.kept s l e);
}
  where
    same : h.unplaced.0.cell ≡ c
    same = cc (h.unplaced.0.there, there)

    passed : (j : ℕ) (i : Inst) → j < from → slice_get (insts_of c) j ≡ Some i → is_written own done i ≡ true
    passed j i l e = by (cases j v.from)
      where
        by : (j < v.from) ⊎ (v.from ≤ j) → is_written own done i ≡ true
        by (inl m) = h.unplaced.0.passed j i m (ap (λ (x : CellBody). slice_get (insts_of x) j) same ∙ e)
        by (inr m) = ap (λ b. not (nat_eq i.of.lib.0 own) || b) (sym (h.flags i.of.slot)) ∙ past j i m l e

    entry : Waiting
    entry = record { slot = v.slot; from = from }

    waiter : WaitsFor own cells done inst.of.slot (record { slot = v.slot; from = from })
    waiter = record {
      waiting = record { cell = c; there = there; new = h.unplaced.0.new; passed = passed };
      inst = inst;
      at = at;
      missing = ap (λ b. not (nat_eq inst.of.lib.0 own) || b) (sym (h.flags inst.of.slot)) ∙ missing;
      child_is = refl;
    }

    parked_at : (b : Bool) (t : ℕ) → nat_eq t inst.of.slot ≡ b → AllByRecursion (WaitsFor own cells done t) (cond b (waits inst.of.slot ++ record { slot = v.slot; from = from } ∷ []) (waits t))
    parked_at false t e = h.parked t
    parked_at true t e =
        let u : inst.of.slot ≡ t = sym (eqb-true t inst.of.slot e) in
        subst (λ n. AllByRecursion (WaitsFor own cells done n) (waits inst.of.slot ++ record { slot = v.slot; from = from } ∷ [])) u
        (all_push (WaitsFor own cells done inst.of.slot) (waits inst.of.slot) (record { slot = v.slot; from = from }) (h.parked inst.of.slot) waiter)

    own_place : names v.slot (waits' inst.of.slot) ≡ true
    own_place =
        let e : nat_eq inst.of.slot inst.of.slot ≡ true = eq-eqb inst.of.slot inst.of.slot refl in
        let s : nat_eq v.slot v.slot ≡ true = eq-eqb v.slot v.slot refl in
        ap (names v.slot) (w inst.of.slot ∙ ap (λ b. cond b (waits inst.of.slot ++ record { slot = v.slot; from = from } ∷ []) (waits inst.of.slot)) e)
        ∙ any_right (λ (x : Waiting). nat_eq v.slot x.slot) (waits inst.of.slot) (record { slot = v.slot; from = from } ∷ []) (ap (λ b. b || false) s)

    kept : (s : ℕ) → IsKept has waits (v ∷ pending) s → IsKept has' waits' pending s
    kept s (at_ready q) = at_ready (g s ∙ q)
    kept s (at_child t q) = at_child t (ap (names s) (w t) ∙ more (nat_eq t inst.of.slot) refl)
      where
        more : (b : Bool) → nat_eq t inst.of.slot ≡ b → names s (cond b (waits inst.of.slot ++ record { slot = v.slot; from = from } ∷ []) (waits t)) ≡ true
        more true e = let u : t ≡ inst.of.slot = eqb-true t inst.of.slot e in
            any_left (λ (x : Waiting). nat_eq s x.slot) (waits inst.of.slot) (record { slot = v.slot; from = from } ∷ []) (ap (λ n. names s (waits n)) (sym u) ∙ q)
        more false e = q
    kept s (at_hand q) = by (nat_eq s v.slot) refl q
      where
        by : (b : Bool) → nat_eq s v.slot ≡ b → (b || names s pending) ≡ true → IsKept has' waits' pending s
        by true e q = let u : s ≡ v.slot = eqb-true s v.slot e in at_child inst.of.slot (ap (λ n. names n (waits' inst.of.slot)) u ∙ own_place)
        by false e q = at_hand q

-- at the start no cell is written, and none has a place
first_waiting : (own : ℕ) (cells : List CellBody) (n : ℕ) → n ≤ length cells → AllByRecursion (IsWaiting own cells []) (first_cells n)
first_waiting own cells zero l = tt
first_waiting own cells (suc n) l =
    let c = get_there cells n (omega (arith, l)) in
    all_push (IsWaiting own cells []) (first_cells n) (record { slot = n; from = 0 }) (first_waiting own cells n (omega (arith, l)))
    record { cell = c.0; there = c.1; new = refl; passed = λ j i m e. absurd (omega (arith, m)) }

first_named : (s n : ℕ) → s < n → names s (first_cells n) ≡ true
first_named s zero l = absurd (omega (arith, l))
first_named s (suc n) l = go (nat_eq s n) refl (first_named s n)
  where
    go : (b : Bool) → nat_eq s n ≡ b → (s < n → names s (first_cells n) ≡ true) → names s (first_cells n ++ record { slot = n; from = 0 } ∷ []) ≡ true
    go true e more = any_right (λ (x : Waiting). nat_eq s x.slot) (first_cells n) (record { slot = n; from = 0 } ∷ []) (ap (λ b. b || false) e)
    go false e more = any_left (λ (x : Waiting). nat_eq s x.slot) (first_cells n) (record { slot = n; from = 0 } ∷ []) (more (apart s n e l))

pub started : (own : ℕ) (cells : List CellBody) (flag has : ℕ → Bool) (waits : ℕ → List Waiting) → ((s : ℕ) → flag s ≡ false) → ((s : ℕ) → has s ≡ false) → ((t : ℕ) → waits t ≡ [])
    → Fits own cells [] (first_cells (length cells)) flag has waits
started own cells flag has waits f g w = record {
  flags = f;
  sound = λ s e. (let c : true ≡ false = sym e ∙ g s in absurd (cc c));
  parked = λ t. subst (λ (ws : List Waiting). AllByRecursion (WaitsFor own cells [] t) ws) (sym (w t)) tt;
  unplaced = first_waiting own cells (length cells) (omega arith);
  kept = λ s l e. at_hand (first_named s (length cells) l);
}
