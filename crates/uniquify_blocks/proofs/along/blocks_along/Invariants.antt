use Rattle.std.proofs.Common.{drop}
use Rattle.uniquify_blocks.proofs.Walking.{HasWalked}
use Rattle.uniquify_blocks.proofs.along.blocks_along.Given as goal

-- the steps so far were gone
abbrev pub invariant-loop-name : goal.invariant-loop-name
invariant-loop-name g l = HasWalked (g.C.Cells.state l.fn.cells) (g.C.Cells.state l.cells) l.fn.top l.at l.name-items (drop l.name-index l.name-items) l.blocks.items
