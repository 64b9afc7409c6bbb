use Rattle.std.proofs.Common.{get_or, take, sym, ap, ◌∙◌, arith}
use Rattle.std.proofs.lemmas.List.{take_more, take_all}
use Rattle.netlist_schema.specs.declared.ids.Object.TheVariants.{Directory}
use Rattle.conflict_check.specs.Commits.{Commits, last_commit}
use Rattle.conflict_check.specs.Marks.{mark_at}
use Rattle.conflict_check.proofs.Finding.{one_from_mark, first_more, none_found}
use Rattle.conflict_check.proofs.Views.{last_commit_is_mark}
use Rattle.conflict_check.proofs.stamps.Stamps.first_later.Goals as goal

pub loop-object-preserved : goal.loop-object-preserved
loop-object-preserved c =
    let items = c.as_slice-object-items.result.now in
    let at = c.loop-object.object-index in
    let first = Directory (record { 0 = 0 }) in
    let object = get_or items at first in
    let mark = mark_at c.self.inside.marks object in
    let last = ap (λ (commits : Commits). last_commit commits object) (sym c.self.view_is) ∙ last_commit_is_mark c.self.inside.marks c.self.invariant object in
    let one = rw (← c.later_commit-next.ensures) at (one_from_mark c.args.self.now object c.args.version mark last) in
    rw (take_more items at first c.loop-object-test.true) (first_more c.args.self.now (take at items) object c.args.version c.loop-object.found c.later_commit-next.result c.first_of-found.result c.loop-object.invariant one c.first_of-found.ensures)

pub returns-clause-none : goal.returns-clause-none
returns-clause-none c =
    let whole = take_all c.loop-object.object-index c.as_slice-object-items.result.now (omega arith) in
    none_found c.args.self.now c.args.reads.now c.args.version c.loop-object.found (rw (whole, c.as_slice-object-items.ensures) at c.loop-object.invariant)
