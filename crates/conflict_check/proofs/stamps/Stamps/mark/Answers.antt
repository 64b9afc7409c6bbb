use Rattle.std.proofs.Common.{◌∙◌}
use Rattle.conflict_check.proofs.Marking.{err_from}
use Rattle.conflict_check.proofs.Views.{same_commits, marked_view}
use Rattle.conflict_check.proofs.stamps.Stamps.mark.Goals as goal

pub returns-in_err-make_room-clause-err : goal.returns-in_err-make_room-clause-err
returns-in_err-make_room-clause-err c = err_from c.from_residual.result _ (same_commits c.self.inside.marks c.make_room.new.marks c.self.invariant c.make_room.ensures.ordered c.make_room.ensures.same ∙ c.self.view_is)

pub returns-clause-ok : goal.returns-clause-ok
returns-clause-ok c =
    rw (← c.self.view_is) (marked_view c.self.inside.marks c.make_room.new.marks c.set_marks.new.marks c.args.written.now c.args.version
    c.self.invariant c.set_marks.ensures.ordered c.make_room.ensures.same (rw c.as_slice-2.ensures at c.set_marks.ensures.marked))
