use Rattle.std.proofs.Common.{◌≡◌, ◌++◌, drop}
use Rattle.std.specs.List.{flat_map}
use Rattle.edit_cells.specs.State.{HasReadSome}
use Rattle.uniquify_copies.specs.Changes.{fresh_for}
use Rattle.uniquify_copies.proofs.change.copies.Given as goal

-- the copies so far, and those that are left, are all
abbrev pub invariant-loop-spot : goal.invariant-loop-spot
invariant-loop-spot g l = record {
  made : l.changes.items ++ flat_map (fresh_for (g.C.Cells.state l.fn.cells).design) (drop l.spot-index l.spots) ≡ flat_map (fresh_for (g.C.Cells.state l.fn.cells).design) l.spots;
  some : HasReadSome (g.C.Cells.state l.fn.cells) (g.C.Cells.state l.cells);
}
