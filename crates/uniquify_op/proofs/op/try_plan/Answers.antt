use Rattle.std.proofs.Common.{sym, subst, ap, false, ◌≡◌, ◌∙◌}
use Rattle.uniquify_copies.specs.Changes.{AreSeats}
use Rattle.uniquify_copies.specs.Drafts.{has_no_room}
use Rattle.uniquify_copies.specs.Seats.{copies_of, seats, split_of}
use Rattle.uniquify_blocks.specs.Plans.{IsPlan}
use Rattle.uniquify_op.proofs.Planned.{block_room, block_seats, block_split, blocks_too_many}
use Rattle.uniquify_op.proofs.op.try_plan.Goals as goal

pub returns-in_default-clause-planned : goal.returns-in_default-clause-planned
returns-in_default-clause-planned g c =
    blocks_too_many (g.C.Cells.state c.args.cells.now).design c.args.top c.requires (rw c.in_default.is at c.in_ok-draft.ensures.drafted)

pub plan_of-requires-clause-seats : goal.plan_of-requires-clause-seats
plan_of-requires-clause-seats g c =
    let d = (g.C.Cells.state c.args.cells.now).design in
    subst (λ e. AreSeats e c.args.top c.as_slice.result.now) (sym c.in_ok-draft.ensures.some.design)
    (subst (λ spots. AreSeats d c.args.top spots) (sym c.as_slice.ensures.value)
    (block_seats d c.args.top c.requires c.in-Some.draft (rw c.in-Some.is at c.in_ok-draft.ensures.drafted)))

pub plan_of-requires-clause-room : goal.plan_of-requires-clause-room
plan_of-requires-clause-room g c =
    let d = (g.C.Cells.state c.args.cells.now).design in
    subst (λ spots. has_no_room (copies_of (seats c.args.top spots)) ≡ false) (sym c.as_slice.ensures.value)
    (block_room d c.args.top c.requires c.in-Some.draft (rw c.in-Some.is at c.in_ok-draft.ensures.drafted))

pub returns-clause-planned : goal.returns-clause-planned
returns-clause-planned g c =
    let d = (g.C.Cells.state c.args.cells.now).design in
    let split = ap (λ spots. split_of (seats c.args.top spots)) c.as_slice.ensures.value
    ∙ block_split d c.args.top c.requires c.in-Some.draft (rw c.in-Some.is at c.in_ok-draft.ensures.drafted) in
    subst (λ s. IsPlan d s c.in_ok-plan.plan) split (subst (λ e. IsPlan e (split_of (seats c.args.top c.as_slice.result.now)) c.in_ok-plan.plan) c.in_ok-draft.ensures.some.design c.in_ok-plan.ensures.plan)
