use Rattle.std.proofs.Common.{◌≡◌, ◌+◌, ℕ, arith, length, map, subst}
use Rattle.net_ways.specs.Ways.{AreWaysOf}
use Rattle.net_ways.proofs.WayLemmas.{AreWayLibs, all_cells, pushed, way_libs_more}
use Rattle.net_ways.proofs.ways.Ways.of.Goals as goal

pub loop-lib-preserved : goal.loop-lib-preserved
loop-lib-preserved g c =
    let d = g.S.Shown.design c.args.design.now in
    let facts = c.args.classes.now in
    let lib : ℕ = c.loop-lib.lib in
    let row = map (λ ways. ways.items) c.in_ok-row.row.items in
    subst (AreWayLibs d facts (lib + 1)) (pushed c.loop-lib.cells.items c.push.new.self.items c.in_ok-row.row c.in_ok-push.ensures.items (λ row. map (λ ways. ways.items) row.items))
    (way_libs_more d facts lib (map (λ row. map (λ ways. ways.items) row.items) c.loop-lib.cells.items) row c.loop-lib.invariant
    (subst (λ n. AreWaysOf d facts lib n row) c.cell_count-count.ensures.value c.in_ok-row.ensures))

pub returns : goal.returns
returns g c =
    let d = g.S.Shown.design c.args.design.now in
    let cells = map (λ row. map (λ ways. ways.items) row.items) c.loop-lib.cells.items in
    let done : c.loop-lib.lib ≡ length d.libs = omega (arith, c.lib_count-lib-end.ensures.value) in
    all_cells d c.args.classes.now cells (subst (λ n. AreWayLibs d c.args.classes.now n cells) done c.loop-lib.invariant)
