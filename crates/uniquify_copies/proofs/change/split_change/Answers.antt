use Rattle.std.proofs.Common.{[], sym, subst, ◌∙◌}
use Rattle.edit_cells.specs.Change.{CanAllBeMade}
use Rattle.uniquify_copies.proofs.CanBeMade.{changes_can}
use Rattle.uniquify_copies.proofs.ChangeEdits.{change_cells, change_is}
use Rattle.uniquify_copies.proofs.DraftSeats.{new_of}
use Rattle.uniquify_copies.specs.Seats.{copies_of, seats}
use Rattle.uniquify_copies.proofs.change.split_change.Goals as goal

pub returns-clause-edits : goal.returns-clause-edits
returns-clause-edits g c =
    let d = (g.C.Cells.state c.args.cells.now).design in
    change_is d (seats c.args.top c.args.spots.now) c.of.result
    (c.of.ensures ∙ change_cells d (g.C.Cells.state c.copies.new.cells).design c.args.top c.args.spots.now c.in_ok-changes.changes.items c.add_inners.new.changes.items c.in_ok-contents.contents
    c.in_ok-changes.ensures.made c.in_ok-changes.ensures.some.design c.in_ok-contents.ensures.turned c.in_ok-add_inners.ensures)

pub returns-clause-can : goal.returns-clause-can
returns-clause-can g c =
    let d = (g.C.Cells.state c.args.cells.now).design in
    let cells = c.of.ensures ∙ change_cells d (g.C.Cells.state c.copies.new.cells).design c.args.top c.args.spots.now c.in_ok-changes.changes.items c.add_inners.new.changes.items c.in_ok-contents.contents
    c.in_ok-changes.ensures.made c.in_ok-changes.ensures.some.design c.in_ok-contents.ensures.turned c.in_ok-add_inners.ensures in
    subst (CanAllBeMade d) (sym cells) (changes_can d (seats c.args.top c.args.spots.now) (new_of d (copies_of (seats c.args.top c.args.spots.now)) [] c.requires.last))
