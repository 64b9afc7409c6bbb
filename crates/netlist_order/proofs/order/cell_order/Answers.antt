use Rattle.std.proofs.Common.{◌≡◌, ◌∙◌, ◌∷◌, ◌++◌, ◌+◌, ◌-◌, ◌<◌, ◌≤◌, [], ℕ, List, Bool, true, false, suc, length, ap, sym, subst, arith, append_assoc, append-nil}
use Rattle.std.specs.Prelude.{unwrap_or, slice_get, cond, nat_eq}
use Rattle.std.specs.Option.{option_map_or}
use Rattle.std.specs.BTreeSet.{contains}
use Rattle.std.specs.Ordering.{nat_cmp}
use Rattle.std.proofs.lemmas.Option.{slice_get_within}
use Rattle.netlist_schema.specs.Design.{cells_in}
use Rattle.netlist_schema.specs.Types.{CellBody}
use Rattle.netlist_order_spec.specs.Order.{order_from}
use Rattle.netlist_order.specs.ReadyQueue.{Fits, IsReadyQueue, IsSized, flag, has, waits, first_cells}
use Rattle.netlist_order.specs.declared.ready_queue.ReadyQueue.{ReadyQueue}
use Rattle.netlist_order.specs.declared.ready_queue.Waiting.{Waiting}
use Rattle.netlist_order.proofs.Search.{nothing_next, this_next, goes_on, ends_here}
use Rattle.netlist_order.proofs.Steps.{taken, started}
use Rattle.netlist_order.proofs.order.cell_order.Goals as goal
use Rattle.netlist_order.proofs.order.cell_order.Goals.{else-loop-test, then-loop-test+in_default}

pub loop-init : goal.loop-init
loop-init g c =
    let cells = cells_in (g.S.Shown.design c.args.design.now) c.args.lib in
    let own = c.args.lib.0 in
    let start = started own cells (flag c.in_ok-queue.queue) (has c.in_ok-queue.queue) (waits c.in_ok-queue.queue) c.in_ok-queue.ensures.flags c.in_ok-queue.ensures.ready c.in_ok-queue.ensures.waiting in
    let given = subst (λ (ws : List Waiting). IsReadyQueue own cells [] ws c.in_ok-queue.queue) (ap first_cells (sym c.cell_count-count.ensures.value) ∙ (sym c.in_ok-all.ensures ∙ sym c.as_slice.ensures.value)) start in
    let placed = c.in_ok-settle.ensures.placed [] given in
    let n : length cells - 0 ≡ length cells = omega arith in (
      c.in_ok-settle.ensures.sized,
      subst (λ (o : List ℕ). IsReadyQueue own cells o [] c.settle.new.self) (sym c.new-order.ensures.items) placed,
      ap (λ (o : List ℕ). o ++ order_from own cells (length cells - 0) o) c.new-order.ensures.items ∙ ap (λ k. order_from own cells k []) n,
    )

sized_after : (n : ℕ) (d e : ReadyQueue) → e.written ≡ d.written → e.waiting ≡ d.waiting → IsSized n d → IsSized n e
sized_after n d e f g h = record { written = ap (λ v. length v.items) f ∙ h.written; waiting = ap (λ v. length v.items) g ∙ h.waiting }

slot_there : (own : ℕ) (cells : List CellBody) (done : List ℕ) (flag has : ℕ → Bool) (waits : ℕ → List Waiting) (k : ℕ) → Fits own cells done [] flag has waits → has k ≡ true → k < length cells
slot_there own cells done flag has waits k h m = let n = h.sound k m in slice_get_within cells k n.cell n.there

pub take-freed-requires : goal.take-freed-requires
take-freed-requires g c =
    let cells = cells_in (g.S.Shown.design c.args.design.now) c.args.lib in
    let d = c.loop.queue in
    record {
      sized = (
        length cells,
        slot_there c.args.lib.0 cells c.loop.order.items (flag d) (has d) (waits d) c.in-Some.slot c.loop.invariant.1 c.in-Some.ensures.ready,
        sized_after (length cells) d c.next.new.self c.next.ensures.written c.next.ensures.waiting c.loop.invariant.0,
      );
    }

pub settle-requires-in-loop : goal.settle-requires-in-loop
settle-requires-in-loop g c =
    let cells = cells_in (g.S.Shown.design c.args.design.now) c.args.lib in
    c.take-freed.ensures.sized (length cells) (sized_after (length cells) c.loop.queue c.next.new.self c.next.ensures.written c.next.ensures.waiting c.loop.invariant.0)

pub loop-preserved : goal.loop-preserved
loop-preserved g c =
    let cells = cells_in (g.S.Shown.design c.args.design.now) c.args.lib in
    let own = c.args.lib.0 in
    let d = c.loop.queue in
    let t = c.take-freed.new.self in
    let k = c.in-Some.slot in
    let order = c.loop.order.items in
    let m = length cells - (c.loop.counter + 1) in
    let fits = taken own cells order k (flag d) (has d) (flag t) (has t) (waits d) (waits t) c.loop.invariant.1 c.in-Some.ensures.ready
    (λ s. c.take-freed.ensures.flags s ∙ ap (λ v. cond (nat_eq s k) true (unwrap_or (slice_get v.items s) false)) c.next.ensures.written)
    (λ s. ap (λ r. contains nat_cmp r s) c.take-freed.ensures.ready ∙ c.in-Some.ensures.rest s)
    (λ s. c.take-freed.ensures.waiting s ∙ ap (λ v. cond (nat_eq s k) [] (option_map_or (λ cells. cells.items) (slice_get v.items s) [])) c.next.ensures.waiting) in
    let freed : waits d k ≡ c.as_slice-in-loop.result.now =
    ap (λ v. option_map_or (λ cells. cells.items) (slice_get v.items k) []) (sym c.next.ensures.waiting) ∙ (sym c.take-freed.ensures.taken ∙ sym c.as_slice-in-loop.ensures.value) in
    let given = subst (λ (ws : List Waiting). IsReadyQueue own cells (order ++ k ∷ []) ws t) freed fits in
    let placed = c.in_ok-settle-2.ensures.placed (order ++ k ∷ []) given in
    let pushed : c.push.new.self.items ≡ order ++ k ∷ [] = c.in_ok-push.ensures.items in
    let count : c.cell_count-count.result ≡ length cells = c.cell_count-count.ensures.value in
    let below : c.loop.counter < c.cell_count-count.result = c.loop-test.true in
    let n : suc m ≡ length cells - c.loop.counter = omega (arith, count, below) in
    let next = this_next own cells order (flag d) (has d) (waits d) k c.loop.invariant.1 c.in-Some.ensures.ready c.in-Some.ensures.first in (
      c.in_ok-settle-2.ensures.sized,
      subst (λ (o : List ℕ). IsReadyQueue own cells o [] c.settle-in-loop.new.self) (sym pushed) placed,
      ap (λ (o : List ℕ). o ++ order_from own cells m o) pushed
          ∙ (append_assoc order (k ∷ []) (order_from own cells m (order ++ k ∷ []))
          ∙ (ap (λ (o : List ℕ). order ++ o) (sym (goes_on own cells order m k next))
          ∙ (ap (λ j. order ++ order_from own cells j order) n ∙ c.loop.invariant.2))),
    )

pub returns : goal.returns
returns g c =
    let cells = cells_in (g.S.Shown.design c.args.design.now) c.args.lib in
    let own = c.args.lib.0 in
    let d = c.loop.queue in
    let order = c.loop.order.items in
    let left = length cells - c.loop.counter in
    let ended : order_from own cells left order ≡ [] = elim c.loop-test.branch [
      | else-loop-test w ↦ (
          let count : c.cell_count-count.result ≡ length cells = c.cell_count-count.ensures.value in
          let past : c.cell_count-count.result ≤ c.loop.counter = w.loop-test.false in
          let n : left ≡ 0 = omega (arith, count, past) in ap (λ j. order_from own cells j order) n)
      | then-loop-test+in_default w ↦ ends_here own cells order left (nothing_next own cells order (flag d) (has d) (waits d) c.loop.invariant.1 w.in_default.ensures.none)
    ] in
    sym (append-nil order) ∙ (ap (λ (o : List ℕ). order ++ o) (sym ended) ∙ c.loop.invariant.2)
