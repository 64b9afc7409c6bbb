use Rattle.std.proofs.Common.{[], take}
use Rattle.net_pins.specs.Levels.{AreAdded, leads_in}
use Rattle.net_pins.proofs.levels.firsts_below.Given as goal

abbrev pub invariant-loop-first : goal.invariant-loop-first
invariant-loop-first l = AreAdded l.classes l.fn.of l.fn.inst (leads_in l.rows l.level.cell (take l.first-index l.above)) [] l.firsts.items
