use Rattle.std.proofs.Common.{◌∙◌, ap, sym}
use Rattle.std.specs.Prelude.{vec_len}
use Rattle.history_turns.specs.declared.seats.Seat.{Seat}
use Rattle.history_check.proofs.Seating.{spare_all, spare_next, spare_start}
use Rattle.history_check.proofs.replay.spare.Goals as goal

pub loop-place-init : goal.loop-place-init
loop-place-init c = spare_start c.args.seats.now c.args.most

pub loop-place-preserved : goal.loop-place-preserved
loop-place-preserved c =
    spare_next c.args.seats.now c.loop-place.place c.loop-place.left c.saturating_sub-left.result c.args.most c.len.result c.index-seats-place.result c.loop-place-test.true c.index-seats-place.is c.loop-place.invariant (c.len.ensures ∙ ap (λ (s : Seat). vec_len s.said) (sym c.index-seats-place.is) ∙ c.index-seats-place.result.said.ok.0) c.saturating_sub-left.ensures

pub returns : goal.returns
returns c = spare_all c.args.seats.now c.loop-place.place c.loop-place.left c.args.most c.loop-place-test.false c.loop-place.invariant
