use Rattle.std.proofs.Common.{◌≡◌, List, ap, sym, subst, ◌∙◌, Some, option_map}
use Rattle.std.specs.Arc.{arc_value}
use Rattle.netlist_schema.specs.Design.{cells_in}
use Rattle.netlist_schema.specs.Names.{AreDistinct, cell_names}
use Rattle.edit_rules_spec.specs.Edit.{edited}
use Rattle.edit_cells.specs.Change.{cell_edits}
use Rattle.edit_cells.specs.declared.change.CellChange.{CellChange}
use Rattle.db_draft.specs.Drafts.{Drafted}
use Rattle.db_draft.proofs.Making.{cells_distinct, with_notes}
use Rattle.db_draft.proofs.draft.Draft.make.Goals as goal

pub make_cells-requires-clause-distinct : goal.make_cells-requires-clause-distinct
make_cells-requires-clause-distinct c = λ lib.
    subst (λ (cs : List CellChange). AreDistinct (cell_names (cells_in (edited c.args.self.now.design (cell_edits c.args.self.now.design cs)) lib))) (sym c.into_vec.ensures) (cells_distinct c.args.self.now.design c.args.change c.requires.valid lib)

pub returns-in-Some-clause-ok : goal.returns-in-Some-clause-ok
returns-in-Some-clause-ok c =
    let d = c.args.self.now.design in
    let notes = arc_value c.in-Some.notes in
    let given : c.args.change.notes ≡ Some notes = sym c.in_ok-notes.ensures ∙ ap (option_map arc_value) c.in-Some.is in
    c.set_notes.ensures
    ∙ ap (λ (f : Drafted). record f { design = record f.design { notes = notes } }) c.in_ok-make_cells.ensures.ok
    ∙ λ i. record {
      base = c.args.self.now.base;
      design = (ap (λ (cs : List CellChange). record (edited d (cell_edits d cs)) { notes = notes }) c.into_vec.ensures ∙ sym (with_notes d c.args.change notes given)) i;
    }
