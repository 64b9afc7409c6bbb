use Rattle.std.proofs.Common.{take}
use Rattle.netlist_schema.specs.Design.{Design}
use Rattle.edit_rules_spec.specs.Edit.{IsChanged}
use Rattle.edit_rules_spec.specs.Objects.{IsPrefix}
use Rattle.edit_cells.specs.Change.{cell_edits}
use Rattle.edit_cells.specs.State.{GrowsBy}
use Rattle.edit_cells.proofs.marks.Marks.add_changes.Given as goal

-- the objects of the changes so far are added
abbrev pub invariant-loop-change : goal.invariant-loop-change
invariant-loop-change l = IsPrefix l.initial.self l.self × ((d : Design) → GrowsBy l.initial.self l.self (IsChanged (cell_edits d (take l.change-index l.change-items))))
