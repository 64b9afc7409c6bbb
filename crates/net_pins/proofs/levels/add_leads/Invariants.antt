use Rattle.std.proofs.Common.{take}
use Rattle.net_pins.specs.Levels.{AreAdded}
use Rattle.net_pins.proofs.levels.add_leads.Given as goal

abbrev pub invariant-loop-joint : goal.invariant-loop-joint
invariant-loop-joint l = AreAdded l.classes l.fn.of l.fn.inst (take l.joint-index l.joints) l.fn.firsts.items l.firsts.items
