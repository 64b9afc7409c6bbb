use Rattle.std.proofs.Common.{◌≡◌, take}
use Rattle.netlist_schema.specs.Design.{Design}
use Rattle.edit_rules_spec.specs.Edit.{edited}
use Rattle.edit_cells.specs.Change.{cell_edits}
use Rattle.edit_cells.proofs.patch.patched.Given as goal

-- the changes so far are made
abbrev pub invariant-loop-change : goal.invariant-loop-change
invariant-loop-change l = (d : Design) → d.libs ≡ l.libs → edited d (cell_edits d (take l.change-index l.changes)) ≡ record d { libs = l.made.items }
