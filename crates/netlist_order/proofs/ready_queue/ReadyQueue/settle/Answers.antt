use Rattle.std.proofs.Common.{◌≡◌, ◌+◌, ◌≤◌, ◌∷◌, ◌∙◌, suc, ap, subst, drop, length, get_or, arith}
use Rattle.std.proofs.Math.Seq.{drop-cons}
use Rattle.std.proofs.lemmas.List.{drop_all}
use Rattle.netlist_order.specs.ReadyQueue.{IsReadyQueue}
use Rattle.netlist_order.specs.declared.ready_queue.Waiting.{Waiting}
use Rattle.netlist_schema.specs.Design.{cells_in}
use Rattle.netlist_order.proofs.ready_queue.ReadyQueue.settle.Goals as goal

pub loop-cell-preserved : goal.loop-cell-preserved
loop-cell-preserved g c =
    let cells = cells_in (g.S.Shown.design c.args.design.now) c.args.lib in
    let none : Waiting = record { slot = 0; from = 0 } in
    let i = c.loop-cell.cell-index in
    let n : suc i ≡ i + 1 = omega arith in
    let next : drop i c.args.cells.now ≡ get_or c.args.cells.now i none ∷ drop (i + 1) c.args.cells.now =
    drop-cons c.args.cells.now i none c.loop-cell-test.true ∙ ap (λ k. get_or c.args.cells.now i none ∷ drop k c.args.cells.now) n in (
      c.in_ok-place.ensures.sized,
      λ done h. c.in_ok-place.ensures.placed done (drop (i + 1) c.args.cells.now)
          (subst (λ ws. IsReadyQueue c.args.lib.0 cells done ws c.loop-cell.self) next (c.loop-cell.invariant.1 done h)),
    )

pub returns-clause-placed : goal.returns-clause-placed
returns-clause-placed g c done h =
    let cells = cells_in (g.S.Shown.design c.args.design.now) c.args.lib in
    let i = c.loop-cell.cell-index in
    let n : length c.args.cells.now ≤ i = omega arith in
    subst (λ ws. IsReadyQueue c.args.lib.0 cells done ws c.loop-cell.self) (drop_all i c.args.cells.now n) (c.loop-cell.invariant.1 done h)
