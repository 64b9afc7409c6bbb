use Rattle.std.proofs.Common.{map}
use Rattle.net_ways.specs.Ways.{AreWaysOf}
use Rattle.net_ways.proofs.ways.row_of.Given as goal

abbrev pub invariant-loop-slot : goal.invariant-loop-slot
invariant-loop-slot g l = AreWaysOf (g.S.Shown.design l.design) l.classes l.fn.lib.0 l.slot (map (λ ways. ways.items) l.row.items)
