use Rattle.std.proofs.Common.{◌≡◌, ◌+◌, ℕ, arith, length, map, subst}
use Rattle.ask_names.specs.Orders.{AreRow}
use Rattle.ask_names.proofs.IndexLemmas.{AreRows, all_orders, pushed, rows_more}
use Rattle.ask_names.proofs.index.Index.of.Goals as goal

pub loop-lib-preserved : goal.loop-lib-preserved
loop-lib-preserved g c =
    let d = g.S.Shown.design c.args.design.now in
    let lib : ℕ = c.loop-lib.lib in
    let row = c.in_ok-row.row.items in
    subst (AreRows d (lib + 1)) (pushed c.loop-lib.cells.items c.push.new.self.items c.in_ok-row.row c.in_ok-push.ensures.items (λ row. row.items))
    (rows_more d lib (map (λ row. row.items) c.loop-lib.cells.items) row c.loop-lib.invariant (subst (λ n. AreRow d lib n row) c.cell_count-count.ensures.value c.in_ok-row.ensures))

pub returns : goal.returns
returns g c =
    let d = g.S.Shown.design c.args.design.now in
    let cells = map (λ row. row.items) c.loop-lib.cells.items in
    let done : c.loop-lib.lib ≡ length d.libs = omega (arith, c.lib_count-lib-end.ensures.value) in
    all_orders d cells (subst (λ n. AreRows d n cells) done c.loop-lib.invariant)
