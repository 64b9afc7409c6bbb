use Rattle.std.proofs.Common.{◌-◌, length}
use Rattle.eco_reads.proofs.Below.{all_placed}
use Rattle.eco_reads.specs.Walk.{IsListed}
use Rattle.uniquify_blocks.proofs.Entering.{HasEntered}
use Rattle.uniquify_blocks.proofs.below.read_below.Given as goal

-- the cells before this place were read
abbrev pub invariant-loop-next : goal.invariant-loop-next
invariant-loop-next g l = record {
  entered : HasEntered (g.C.Cells.state l.fn.cells) (g.C.Cells.state l.cells) l.fn.top l.order.items l.next;
  listed : IsListed l.seen.keys l.order.items;
}

-- each cell is read once
abbrev pub decreases-loop-next : goal.decreases-loop-next
decreases-loop-next g l = length (all_placed (g.C.Cells.state l.fn.cells).design.libs) - l.next
