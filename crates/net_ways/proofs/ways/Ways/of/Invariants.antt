use Rattle.std.proofs.Common.{map}
use Rattle.net_ways.proofs.WayLemmas.{AreWayLibs}
use Rattle.net_ways.proofs.ways.Ways.of.Given as goal

abbrev pub invariant-loop-lib : goal.invariant-loop-lib
invariant-loop-lib g l = AreWayLibs (g.S.Shown.design l.design) l.classes l.lib (map (λ row. map (λ ways. ways.items) row.items) l.cells.items)
