use Rattle.std.proofs.Common.{◌-◌, suc, length}
use Rattle.eco_reads.specs.Walk.{IsListed}
use Rattle.eco_reads.proofs.Below.{IsWalked, all_placed}
use Rattle.eco_reads.proofs.walk.reaches.Given as goal

-- the cells before this place were looked into
abbrev pub invariant-loop-next : goal.invariant-loop-next
invariant-loop-next g l = record {
  walked : IsWalked (g.C.Cells.state l.fn.cells) (g.C.Cells.state l.cells) l.fn.from l.order.items l.next;
  listed : IsListed l.seen.keys l.order.items;
}

-- each cell is looked into once
abbrev pub decreases-loop-next : goal.decreases-loop-next
decreases-loop-next g l = suc (length (all_placed (g.C.Cells.state l.fn.cells).design.libs)) - l.next
