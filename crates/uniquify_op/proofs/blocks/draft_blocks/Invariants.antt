use Rattle.edit_cells.specs.State.{HasReadSome}
use Rattle.uniquify_op.proofs.Walking.{IsUnderWay}
use Rattle.uniquify_op.proofs.blocks.draft_blocks.Given as goal

-- the walk is under way
abbrev pub invariant-loop : goal.invariant-loop
invariant-loop g l = record {
  walking : IsUnderWay (g.C.Cells.state l.fn.cells).design l.fn.top l.walk;
  some : HasReadSome (g.C.Cells.state l.fn.cells) (g.C.Cells.state l.cells);
}
