use Rattle.std.proofs.Common.{ap, sym, subst, ◌∙◌, length}
use Rattle.std.specs.Arc.{arc_value}
use Rattle.netlist_schema.specs.Design.{cells_in}
use Rattle.db_work.specs.Becomes.{IsFuller}
use Rattle.db_work.proofs.Becoming.{fuller, names_differ, next_there, none_at, one_more, room, shared_at}
use Rattle.db_draft.specs.Drafts.{Drafted}
use Rattle.db_draft.proofs.Drafting.{on_ok}
use Rattle.db_work.proofs.work.Work.add_next.Goals as goal

pub push-requires-clause-there : goal.push-requires-clause-there
push-requires-clause-there c =
    room c.args.self.now c.requires.behind.0 c.args.moved.now.design c.requires.behind.1 c.args.id c.requires.written c.requires.next c.requires.within (arc_value c.in-Some.body)
    (shared_at c.in_ok-body.field-0 c.in-Some.body c.draft.result.now.design c.args.self.now.design c.args.id c.in-Some.is c.in_ok-body.ensures c.draft.ensures)

pub push-requires-clause-distinct : goal.push-requires-clause-distinct
push-requires-clause-distinct c =
    names_differ c.args.self.now c.requires.behind.0 c.args.moved.now.design c.requires.behind.1 c.args.id c.requires.written c.requires.next c.requires.within (arc_value c.in-Some.body)
    (shared_at c.in_ok-body.field-0 c.in-Some.body c.draft.result.now.design c.args.self.now.design c.args.id c.in-Some.is c.in_ok-body.ensures c.draft.ensures)

pub returns-clause-fuller : goal.returns-clause-fuller
returns-clause-fuller c =
    on_ok c.push.result _ _
    (λ is target behind. subst (λ (f : Drafted). IsFuller c.args.self.now target c.args.moved.now.design f.design) (sym is)
    (fuller c.args.self.now target c.args.moved.now.design behind c.args.id c.requires.written c.requires.next c.requires.within (arc_value c.in-Some.body)
    (shared_at c.in_ok-body.field-0 c.in-Some.body c.draft.result.now.design c.args.self.now.design c.args.id c.in-Some.is c.in_ok-body.ensures c.draft.ensures)))
    c.push.ensures.ok

pub returns-clause-count : goal.returns-clause-count
returns-clause-count c =
    on_ok c.push.result _ _
    (λ is. ap (λ (f : Drafted). length (cells_in f.design c.args.id.lib)) is
    ∙ one_more c.args.self.now c.requires.behind.0 c.args.moved.now.design c.requires.behind.1 c.args.id c.requires.written c.requires.next c.requires.within (arc_value c.in-Some.body)
    (shared_at c.in_ok-body.field-0 c.in-Some.body c.draft.result.now.design c.args.self.now.design c.args.id c.in-Some.is c.in_ok-body.ensures c.draft.ensures))
    c.push.ensures.ok

pub unreachable-requires : goal.unreachable-requires
unreachable-requires c =
    next_there c.args.self.now c.requires.behind.0 c.args.moved.now.design c.requires.behind.1 c.args.id c.requires.within
    (none_at c.in_ok-body.field-0 c.draft.result.now.design c.args.self.now.design c.args.id c.in-None.is c.in_ok-body.ensures c.draft.ensures)
