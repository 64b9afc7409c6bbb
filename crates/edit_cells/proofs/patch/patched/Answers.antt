use Rattle.std.proofs.Common.{ap, ◌∙◌, List, take}
use Rattle.edit_rules_spec.specs.Edit.{edited}
use Rattle.edit_cells.specs.Change.{cell_edits}
use Rattle.edit_cells.specs.declared.change.CellChange.{CellChange}
use Rattle.edit_cells.proofs.Patches.{one_more_made, taken_one_more}
use Rattle.edit_cells.proofs.patch.patched.Goals as goal

pub loop-change-preserved : goal.loop-change-preserved
loop-change-preserved c = λ d is.
    ap (λ (changes : List CellChange). edited d (cell_edits d changes)) (taken_one_more c.args.changes.now c.loop-change.change-index c.change-item.result c.loop-change-test.true c.change-item.is)
    ∙ one_more_made d (take c.loop-change.change-index c.args.changes.now) c.change-item.result c.loop-change.made.items c.change_libs.new.libs.items (c.loop-change.invariant d is) c.in_ok-change_libs.ensures
