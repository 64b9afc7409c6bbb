use Rattle.std.proofs.Common.{filter, sym, subst, ap, ◌∙◌}
use Rattle.std.proofs.lemmas.Result.{IfOk-weaker}
use Rattle.flat_cells.specs.Below.{AreCellsBelow}
use Rattle.flat_cells.specs.Marks.{AreMarkedBelow, is_marked}
use Rattle.flat_cells.proofs.BelowLemmas.{are_below}
use Rattle.flat_cells.proofs.MarkLemmas.{blank_room}
use Rattle.flat_cells.proofs.below.cells_below.Goals as goal

pub mark_below-requires-clause-behind : goal.mark_below-requires-clause-behind
mark_below-requires-clause-behind g c = rw c.as_slice.ensures.value c.in_ok-cells.ensures.cells.behind

pub mark_below-requires-clause-room : goal.mark_below-requires-clause-room
mark_below-requires-clause-room g c =
    λ cell is. c.set.ensures.kept.room cell (blank_room (g.S.Shown.design c.args.design.now) c.in_ok-marks.marks c.in_ok-marks.ensures cell is)

pub returns : goal.returns
returns g c =
    let d = g.S.Shown.design c.args.design.now in
    let cells = c.in_ok-cells.cells.items in
    let below = subst (λ v. AreMarkedBelow d v c.set.new.self c.mark_below.new.marks) c.as_slice.ensures.value c.mark_below.ensures in
    let are = are_below d c.in_ok-cells.ensures.valid c.args.top c.requires cells c.in_ok-cells.ensures.cells c.in_ok-marks.marks c.set.new.self c.mark_below.new.marks
    c.in_ok-marks.ensures c.set.ensures below in
    IfOk-weaker c.list_marked.result _ _
    (λ found is. subst (λ v. AreCellsBelow d c.args.top v) (sym (is ∙ ap (filter (is_marked c.mark_below.new.marks)) c.as_slice-2.ensures.value)) are)
    c.list_marked.ensures
