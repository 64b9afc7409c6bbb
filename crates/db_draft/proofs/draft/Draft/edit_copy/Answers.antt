use Rattle.std.proofs.Common.{◌≡◌, ap, ◌∙◌, Option, Some, subst, sym}
use Rattle.std.specs.Arc.{arc_value}
use Rattle.edit_cells.specs.Patch.{body_after}
use Rattle.edit_cells.proofs.Patches.{cell_changed_same}
use Rattle.db_draft.proofs.Drafting.{on_ok}
use Rattle.netlist_schema.specs.Types.{CellBody}
use Rattle.std.specs.Prelude.{IsSomeAnd}
use Rattle.db_draft.specs.Make.{CanFit}
use Rattle.db_draft.proofs.draft.Draft.edit_copy.Goals as goal

pub unreachable-requires : goal.unreachable-requires
unreachable-requires c = subst (λ (o : Option CellBody). IsSomeAnd o (CanFit c.args.change)) (sym c.in-None.ensures) c.requires

pub returns-clause-ok : goal.returns-clause-ok
returns-clause-ok c =
    let d = c.args.self.now.design in
    let made : arc_value c.in_ok-new.field-0 ≡ body_after c.args.change c.in-Some.body.now = c.in_ok-new.ensures.ok ∙ (c.in_ok-change_body.ensures.ok ∙ ap (body_after c.args.change) c.in_ok-made-in-Some.ensures.same) in
    on_ok c.set.result _ _
    (λ is. is ∙ (λ i. record {
      base = c.args.self.now.base;
      design = cell_changed_same d c.args.id (λ _. arc_value c.in_ok-new.field-0) (body_after c.args.change) (λ body found.
          let both : Some c.in-Some.body.now ≡ Some body = c.in-Some.ensures ∙ found in
          let same : c.in-Some.body.now ≡ body = cc in
          made ∙ ap (body_after c.args.change) same) i;
    })) c.set.ensures.ok
