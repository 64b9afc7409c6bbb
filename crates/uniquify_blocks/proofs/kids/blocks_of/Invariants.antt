use Rattle.std.proofs.Common.{◌≡◌, take}
use Rattle.std.specs.Prelude.{filter}
use Rattle.uniquify_spec.specs.Blocks.{is_block}
use Rattle.edit_cells.specs.State.{HasReadSome}
use Rattle.uniquify_blocks.proofs.kids.blocks_of.Given as goal

-- the blocks so far are on the list
abbrev pub invariant-loop-place : goal.invariant-loop-place
invariant-loop-place g l = record {
  found : l.made.items ≡ filter (λ step. is_block (g.C.Cells.state l.fn.cells).design step.of) (take l.place l.steps);
  some : HasReadSome (g.C.Cells.state l.fn.cells) (g.C.Cells.state l.cells);
}
