use Rattle.std.proofs.Common.{◌≡◌, length, arith, sym, subst, ap, ◌∙◌}
use Rattle.flat_cells.specs.Below.{AreCells, cells_upto}
use Rattle.flat_cells.proofs.ListedLemmas.{upto_all}
use Rattle.flat_cells.proofs.below.list_cells.Goals as goal

pub returns-clause-cells : goal.returns-clause-cells
returns-clause-cells g c =
    let d = g.S.Shown.design c.args.design.now in
    let all : c.loop-lib.lib ≡ length d.libs = omega (arith, c.loop-lib-test.false, c.loop-lib.auto.lib-end, c.lib_count-lib-end.ensures.value) in
    subst (λ v. AreCells d v) (sym (c.loop-lib.invariant ∙ ap (cells_upto d) all)) (upto_all d c.lib_count-lib-end.ensures.valid)
