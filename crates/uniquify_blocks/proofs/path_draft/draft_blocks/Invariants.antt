use Rattle.std.proofs.Common.{[], take}
use Rattle.netlist_schema.specs.Types.{CellId}
use Rattle.edit_cells.specs.State.{HasReadSome}
use Rattle.uniquify_copies.specs.Drafts.{IsDraft}
use Rattle.uniquify_blocks.specs.Along.{chain}
use Rattle.uniquify_blocks.specs.Plans.{all_copied}
use Rattle.uniquify_blocks.proofs.path_draft.draft_blocks.Given as goal

-- the blocks so far have copies
abbrev pub invariant-loop-place : goal.invariant-loop-place
invariant-loop-place g l = record {
  drafted : (top : CellId) → IsDraft (g.C.Cells.state l.fn.cells).design top (all_copied (chain [] (take l.place l.steps))) l.draft;
  some : HasReadSome (g.C.Cells.state l.fn.cells) (g.C.Cells.state l.cells);
}
