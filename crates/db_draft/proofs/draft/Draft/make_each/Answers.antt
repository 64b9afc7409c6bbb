use Rattle.std.proofs.Common.{◌++◌, ◌∷◌, [], List, refl, ap, sym, subst, ◌∙◌, append_assoc}
use Rattle.netlist_schema.specs.Design.{Design, cells_in}
use Rattle.netlist_schema.specs.Names.{AreDistinct, cell_names}
use Rattle.edit_rules_spec.specs.Edit.{edited, edited_once}
use Rattle.edit_cells.specs.Change.{CanAllBeMade, CanBeMade, cell_edits, edit_of}
use Rattle.edit_cells.specs.declared.change.CellChange.{CellChange}
use Rattle.db_draft.specs.Drafts.{Drafted}
use Rattle.db_draft.proofs.Making.{can_next, distinct_next, made_next}
use Rattle.db_draft.proofs.draft.Draft.make_each.Goals as goal

pub loop-change-init : goal.loop-change-init
loop-change-init c = record { made = refl; rest = sym c.into_iter-change-iterator.ensures.into_iter_gives.0 }

pub make_one-requires-clause-can : goal.make_one-requires-clause-can
make_one-requires-clause-can c =
    let d = c.args.self.now.design in
    let before = c.loop-change.invariant in
    let all = before.rest ∙ ap (λ (cs : List CellChange). c.loop-change.yielded ++ cs) c.in-Some.ensures.steps.0 in
    subst (λ (f : Drafted). CanBeMade f.design c.in-Some.change) (sym before.made)
    (can_next c.loop-change.yielded d c.in-Some.change c.next.new.self.rest.items (subst (λ (cs : List CellChange). CanAllBeMade d cs) all c.requires.can))

pub make_one-requires-clause-distinct : goal.make_one-requires-clause-distinct
make_one-requires-clause-distinct c = λ lib.
    let d = c.args.self.now.design in
    let before = c.loop-change.invariant in
    let all = before.rest ∙ ap (λ (cs : List CellChange). c.loop-change.yielded ++ cs) c.in-Some.ensures.steps.0 in
    subst (λ (f : Drafted). AreDistinct (cell_names (cells_in (edited_once f.design (edit_of f.design c.in-Some.change)) lib))) (sym before.made)
    (distinct_next c.loop-change.yielded d c.in-Some.change c.next.new.self.rest.items (λ other. subst (λ (cs : List CellChange). AreDistinct (cell_names (cells_in (edited d (cell_edits d cs)) other))) all (c.requires.distinct other)) lib)

pub loop-change-preserved : goal.loop-change-preserved
loop-change-preserved c =
    let d = c.args.self.now.design in
    let before = c.loop-change.invariant in record {
      made = c.in_ok-make_one.ensures.ok
          ∙ ap (λ (f : Drafted). record f { design = edited_once f.design (edit_of f.design c.in-Some.change) }) before.made
          ∙ ap (λ (e : Design). record c.args.self.now { design = e }) (made_next d c.loop-change.yielded c.in-Some.change);
      rest = before.rest ∙ (ap (λ (cs : List CellChange). c.loop-change.yielded ++ cs) c.in-Some.ensures.steps.0 ∙ sym (append_assoc c.loop-change.yielded (c.in-Some.change ∷ []) c.next.new.self.rest.items));
    }
