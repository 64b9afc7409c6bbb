-- The first cell that is ready, from what is marked.
use Rattle.std.proofs.Common.{◌≡◌, ℕ, zero, suc, ◌+◌, ◌<◌, ◌≤◌, List, [], ◌∷◌, ◌++◌, refl, ap, sym, ◌∙◌, Bool, true, false, not, Some, None, arith, slice_get}
use Rattle.std.specs.Prelude.{cond, nat_eq}
use Rattle.std.specs.List.{list_all, list_any}
use Rattle.std.proofs.lemmas.Bool.{and_parts, eqb-true, not-true, false_from_ne_true}
use Rattle.std.proofs.lemmas.Option.{slice_get_within}
use Rattle.netlist_order_spec.specs.Order.{is_written, is_ready, first_ready, order_from}
use Rattle.netlist_schema.specs.Design.{insts_of}
use Rattle.netlist_schema.specs.Types.{CellBody}
use Rattle.netlist_order.specs.ReadyQueue.{Fits, IsKept, WaitsFor, at_ready, at_child, at_hand}
use Rattle.netlist_order.specs.declared.ready_queue.Waiting.{Waiting}
use Rattle.netlist_order.proofs.Lists.{all_at, named}

-- no cell is ready
pub none_ready : (own : ℕ) (done : List ℕ) (j : ℕ) (cs : List CellBody) → ((t : ℕ) (c : CellBody) → slice_get cs t ≡ Some c → is_ready own done (j + t) c ≡ false) → first_ready own done j cs ≡ None
none_ready own done j [] f = refl
none_ready own done j (c ∷ cs) f =
    let z : j + 0 ≡ j = omega arith in
    let e : is_ready own done j c ≡ false = ap (λ k. is_ready own done k c) (sym z) ∙ f 0 c refl in
    ap (λ b. cond b (Some j) (first_ready own done (suc j) cs)) e
    ∙ none_ready own done (suc j) cs (λ t x g. let y : suc j + t ≡ j + suc t = omega arith in ap (λ k. is_ready own done k x) y ∙ f (suc t) x g)

-- a cell is ready, and none before it
pub one_ready : (own : ℕ) (done : List ℕ) (j k : ℕ) (cs : List CellBody) (c : CellBody) → slice_get cs k ≡ Some c → is_ready own done (j + k) c ≡ true
    → ((t : ℕ) (x : CellBody) → t < k → slice_get cs t ≡ Some x → is_ready own done (j + t) x ≡ false) → first_ready own done j cs ≡ Some (j + k)
one_ready own done j k [] c e h f = absurd (cc e)
one_ready own done j zero (y ∷ cs) c e h f =
    let z : j + 0 ≡ j = omega arith in
    let w : y ≡ c = cc e in
    let r : is_ready own done j y ≡ true = ap (is_ready own done j) w ∙ (ap (λ k. is_ready own done k c) (sym z) ∙ h) in
    ap (λ b. cond b (Some j) (first_ready own done (suc j) cs)) r ∙ ap Some (sym z)
one_ready own done j (suc k) (y ∷ cs) c e h f =
    let z : j + 0 ≡ j = omega arith in
    let r : is_ready own done j y ≡ false = ap (λ k. is_ready own done k y) (sym z) ∙ f 0 y (omega arith) refl in
    let n : suc j + k ≡ j + suc k = omega arith in
    ap (λ b. cond b (Some j) (first_ready own done (suc j) cs)) r
    ∙ (one_ready own done (suc j) k cs c e (ap (λ m. is_ready own done m c) n ∙ h) (λ t x l g. let m : suc j + t ≡ j + suc t = omega arith in ap (λ v. is_ready own done v x) m ∙ f (suc t) x (omega (arith, l)) g)
    ∙ ap Some n)

-- an instance that is not written keeps its cell from being ready
pub not_ready : (own : ℕ) (cells : List CellBody) (done : List ℕ) (t s : ℕ) (c : CellBody) (w : Waiting) → WaitsFor own cells done t w → nat_eq s w.slot ≡ true → slice_get cells s ≡ Some c → is_ready own done s c ≡ true → ⊥
not_ready own cells done t s c w h e there ready =
    let q : s ≡ w.slot = eqb-true s w.slot e in
    let same : c ≡ h.waiting.cell = cc (there, ap (slice_get cells) q ∙ h.waiting.there) in
    let all = (and_parts (not (list_any (nat_eq s) done)) (list_all (is_written own done) (insts_of c)) ready).1 in
    let g : is_written own done h.inst ≡ true = all_at (is_written own done) (insts_of c) w.from h.inst all (ap (λ (x : CellBody). slice_get (insts_of x) w.from) same ∙ h.at) in
    let contra : true ≡ false = sym g ∙ h.missing in absurd (cc contra)

-- a cell that is ready is marked so
pub ready_marked : (own : ℕ) (cells : List CellBody) (done : List ℕ) (flag has : ℕ → Bool) (waits : ℕ → List Waiting) (s : ℕ) (c : CellBody) → Fits own cells done [] flag has waits → slice_get cells s ≡ Some c → is_ready own done s c ≡ true → has s ≡ true
ready_marked own cells done flag has waits s c h there r = go (h.kept s (slice_get_within cells s c there) (not-true (list_any (nat_eq s) done) (and_parts (not (list_any (nat_eq s) done)) (list_all (is_written own done) (insts_of c)) r).0))
  where
    go : IsKept has waits [] s → has s ≡ true
    go (at_ready k) = k
    go (at_child t n) = let w = named (WaitsFor own cells done t) s (waits t) (h.parked t) n in absurd (not_ready own cells done t s c w.0 w.1 w.2 there r)
    go (at_hand n) = absurd (cc n)

pub nothing_next : (own : ℕ) (cells : List CellBody) (done : List ℕ) (flag has : ℕ → Bool) (waits : ℕ → List Waiting) → Fits own cells done [] flag has waits → ((s : ℕ) → has s ≡ false) → first_ready own done 0 cells ≡ None
nothing_next own cells done flag has waits h none = none_ready own done 0 cells (λ t c e.
    let z : 0 + t ≡ t = omega arith in
    ap (λ k. is_ready own done k c) z ∙ false_from_ne_true (is_ready own done t c) (λ r.
    let g : true ≡ false = sym (ready_marked own cells done flag has waits t c h e r) ∙ none t in absurd (cc g)))

pub this_next : (own : ℕ) (cells : List CellBody) (done : List ℕ) (flag has : ℕ → Bool) (waits : ℕ → List Waiting) (k : ℕ) → Fits own cells done [] flag has waits → has k ≡ true → ((s : ℕ) → has s ≡ true → k ≤ s) → first_ready own done 0 cells ≡ Some k
this_next own cells done flag has waits k h marked least =
    let n = h.sound k marked in
    let y : 0 + k ≡ k = omega arith in
    one_ready own done 0 k cells n.cell n.there (ap (λ m. is_ready own done m n.cell) y ∙ n.ready) (λ t c l e.
    let z : 0 + t ≡ t = omega arith in
    ap (λ k. is_ready own done k c) z ∙ false_from_ne_true (is_ready own done t c) (λ r.
    let m = least t (ready_marked own cells done flag has waits t c h e r) in absurd (omega (arith, l, m))))
    ∙ ap Some y

-- the order goes on with the cell, or ends
pub goes_on : (own : ℕ) (cells : List CellBody) (done : List ℕ) (n k : ℕ) → first_ready own done 0 cells ≡ Some k → order_from own cells (suc n) done ≡ k ∷ order_from own cells n (done ++ k ∷ [])
goes_on own cells done n k e = rw e refl

pub ends_here : (own : ℕ) (cells : List CellBody) (done : List ℕ) (n : ℕ) → first_ready own done 0 cells ≡ None → order_from own cells n done ≡ []
ends_here own cells done zero e = refl
ends_here own cells done (suc n) e = rw e refl
