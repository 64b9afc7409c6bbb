use Rattle.std.proofs.Common.{◌≡◌, ◌++◌, drop}
use Rattle.flat_spec.specs.Effective.{insts_along}
use Rattle.annot_view.specs.Lent.{lent}
use Rattle.annot_view.proofs.properties.insts_along.Given as goal

-- the instances so far, and those along what is left of the path
abbrev pub invariant-loop-step : goal.invariant-loop-step
invariant-loop-step g l =
    lent l.insts.items ++ insts_along (g.S.Shown.design l.design) l.cell (drop l.step-index l.path)
    ≡ insts_along (g.S.Shown.design l.design) l.fn.root l.path
