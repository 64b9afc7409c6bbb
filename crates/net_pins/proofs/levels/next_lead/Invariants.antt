use Rattle.std.proofs.Common.{take}
use Rattle.net_pins.specs.Levels.{IsNextOf, leads_in}
use Rattle.net_pins.proofs.levels.next_lead.Given as goal

abbrev pub invariant-loop-first : goal.invariant-loop-first
invariant-loop-first l = IsNextOf (leads_in l.rows l.level.cell (take l.first-index l.firsts)) l.fn.inst (record { port = l.fn.port; bit = l.fn.bit }) l.found
