use Rattle.std.proofs.Common.{sym, ap, subst, ◌∙◌, append-nil, ◌++◌, List, Option}
use Rattle.std.specs.Prelude.{option_to_list, option_map}
use Rattle.netlist_schema.specs.Types.{Note}
use Rattle.edit_rules_spec.specs.Edit.{Edit, IsChanged, noted}
use Rattle.edit_cells.specs.Change.{cell_edits}
use Rattle.edit_cells.specs.State.{GrowsBy}
use Rattle.edit_cells.proofs.Growing.{notes_added}
use Rattle.edit_cells.proofs.marks.Marks.add_all.Goals as goal

pub returns-in-Some : goal.returns-in-Some
returns-in-Some c = notes_added _ _ _ _ _ _ _ c.in-Some.is c.in_ok-add_changes.ensures c.add_notes.ensures

pub returns-in-None : goal.returns-in-None
returns-in-None c = λ d.
    subst (λ (edits : List Edit). GrowsBy c.args.self.now c.add_changes.new.self (IsChanged edits))
    (sym (append-nil (cell_edits d c.args.change.now.cells)) ∙ ap (λ (notes : Option (List Note)). cell_edits d c.args.change.now.cells ++ option_to_list (option_map noted notes)) (sym c.in-None.is))
    (c.in_ok-add_changes.ensures d)
