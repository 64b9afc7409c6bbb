use Rattle.std.proofs.Common.{◌≡◌, drop}
use Rattle.flat_spec.specs.Paths.{cell_along}
use Rattle.flat_lookup.proofs.way.cell_along.Given as goal

abbrev pub invariant-loop-step : goal.invariant-loop-step
invariant-loop-step g l =
    cell_along (g.S.Shown.design l.design) l.cell (drop l.step-index l.path) ≡ cell_along (g.S.Shown.design l.design) l.fn.root l.path
