use Rattle.std.proofs.Common.{◌≡◌, ◌++◌, drop, length, map}
use Rattle.flat_spec.specs.Occurrences.{occurrences}
use Rattle.flat_spec.specs.Below.{under_path}
use Rattle.flat_spec.proofs.BelowLemmas.{below_each}
use Rattle.design_model.proofs.walk.+list_below.Given as goal

abbrev pub decreases-list_below : goal.decreases-list_below
decreases-list_below g l = length (occurrences (g.S.Shown.design l.design.now) l.cell)

-- what is found, with what is left, is the whole
abbrev pub invariant-loop-i : goal.invariant-loop-i
invariant-loop-i g l =
    l.found.items ++ below_each (g.S.Shown.design l.design) l.path l.i (drop l.i l.insts)
    ≡ l.fn.found.items ++ map (under_path l.path) (occurrences (g.S.Shown.design l.design) l.fn.cell)
