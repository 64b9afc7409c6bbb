use Rattle.std.proofs.Common.{◌+◌, length, ap, subst, ◌∙◌}
use Rattle.uniquify_copies.proofs.SomeReads.{some_none, some_then}
use Rattle.uniquify_copies.proofs.TurnLemmas.{above_within, starts, table_length, turned_all, turns_on}
use Rattle.uniquify_copies.specs.Changes.{IsTurnedFor}
use Rattle.uniquify_copies.proofs.turn.turn_all.Goals as goal

pub loop-spot-init : goal.loop-spot-init
loop-spot-init g c = record {
  turned = starts (g.C.Cells.state c.args.cells.now).design c.args.top c.args.spots.now c.requires c.in_ok-made.made c.in_ok-made.ensures.length c.in_ok-made.ensures.nothing;
  some = some_none (g.C.Cells.state c.args.cells.now);
}

pub turn_for-requires-clause-within : goal.turn_for-requires-clause-within
turn_for-requires-clause-within g c =
    above_within (g.C.Cells.state c.args.cells.now).design c.args.top c.args.spots.now c.requires c.loop-spot.spot-index c.spot-item.result c.loop-spot-test.true c.spot-item.is

pub turn_for-requires-clause-long : goal.turn_for-requires-clause-long
turn_for-requires-clause-long g c =
    ap length c.loop-spot.invariant.turned ∙ table_length (g.C.Cells.state c.args.cells.now).design c.args.top c.args.spots.now c.requires (c.loop-spot.spot-index + 1)

pub loop-spot-preserved : goal.loop-spot-preserved
loop-spot-preserved g c =
    let s = g.C.Cells.state c.args.cells.now in
    record {
      turned = turns_on s.design c.args.top c.args.spots.now c.requires c.loop-spot.spot-index c.spot-item.result c.loop-spot-test.true c.spot-item.is c.loop-spot.made c.turn_for.new.made c.loop-spot.invariant.turned
          (subst (λ d. IsTurnedFor d c.args.top c.args.spots.now c.spot-item.result c.loop-spot.made c.turn_for.new.made) c.loop-spot.invariant.some.design c.in-Ok.ensures.turned);
      some = some_then s (g.C.Cells.state c.loop-spot.cells) (g.C.Cells.state c.turn_for.new.cells) c.loop-spot.invariant.some c.in-Ok.ensures.some;
    }

pub returns-clause-turned : goal.returns-clause-turned
returns-clause-turned g c =
    turned_all (g.C.Cells.state c.args.cells.now).design c.args.top c.args.spots.now c.requires c.loop-spot.spot-index c.loop-spot.made c.loop-spot-test.false c.loop-spot.invariant.turned
