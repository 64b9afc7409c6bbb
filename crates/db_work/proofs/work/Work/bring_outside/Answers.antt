use Rattle.std.proofs.Common.{ap, sym, subst, ◌∙◌}
use Rattle.netlist_schema.specs.Design.{Design, cell_at}
use Rattle.netlist_schema.specs.declared.ids.Object.TheVariants.{Interface}
use Rattle.db_work.specs.Becomes.{IsNearer, joined}
use Rattle.db_work.proofs.Becoming.{outside_absent, outside_done, outside_fits}
use Rattle.db_draft.specs.Drafts.{Drafted}
use Rattle.db_draft.proofs.Drafting.{on_ok}
use Rattle.db_work.proofs.work.Work.bring_outside.Goals as goal

pub set-requires : goal.set-requires
set-requires c =
    outside_fits c.args.self.now c.requires.near.0 c.args.moved.now.design c.requires.near.1 c.args.id c.in_ok-body.field-0 c.in-Some.body c.in-Some.is c.requires.written
    (c.in_ok-body.ensures ∙ ap (λ (d : Design). joined (cell_at d c.args.id) (cell_at c.args.moved.now.design c.args.id)) c.draft.ensures)

pub returns-in-Some : goal.returns-in-Some
returns-in-Some c =
    on_ok c.set.result _ _
    (λ is target near. subst (λ (f : Drafted). IsNearer c.args.self.now target c.args.moved.now.design f.design (Interface c.args.id)) (sym is)
    (outside_done c.args.self.now target c.args.moved.now.design near c.args.id c.in_ok-body.field-0 c.in-Some.body c.in-Some.is c.requires.written
    (c.in_ok-body.ensures ∙ ap (λ (d : Design). joined (cell_at d c.args.id) (cell_at c.args.moved.now.design c.args.id)) c.draft.ensures)))
    c.set.ensures.ok

pub returns-in-None : goal.returns-in-None
returns-in-None c = λ target near.
    outside_absent c.args.self.now target c.args.moved.now.design near c.args.id c.in_ok-body.field-0 c.in-None.is c.requires.written
    (c.in_ok-body.ensures ∙ ap (λ (d : Design). joined (cell_at d c.args.id) (cell_at c.args.moved.now.design c.args.id)) c.draft.ensures)
