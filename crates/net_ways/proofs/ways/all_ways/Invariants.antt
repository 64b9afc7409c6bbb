use Rattle.std.proofs.Common.{take}
use Rattle.net_ways.specs.Ways.{AreEach}
use Rattle.net_ways.proofs.ways.all_ways.Given as goal

abbrev pub invariant-loop-joint : goal.invariant-loop-joint
invariant-loop-joint g l = AreEach (g.S.Shown.design l.design) l.classes l.fn.cell (take l.joint-index l.joints) l.ways.items
