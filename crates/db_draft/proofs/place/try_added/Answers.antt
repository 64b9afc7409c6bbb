use Rattle.std.proofs.Common.{arith}
use Rattle.std.specs.Arc.{arc_value}
use Rattle.db_draft.proofs.Placing.{got_body, tried_place}
use Rattle.db_draft.proofs.place.try_added.Goals as goal

pub try_body-requires : goal.try_body-requires
try_body-requires c = c.requires (arc_value c.index_mut.result.now) (got_body c.args.bodies.now.items c.args.place c.index_mut.result.now (omega (arith, c.if-place-len.false, c.len.ensures)) c.index_mut.ensures.value)

pub returns : goal.returns
returns c =
    tried_place c.args.bodies.now.items c.args.place c.index_mut.result.now c.try_body.new.body c.args.change c.try_body.result
    (got_body c.args.bodies.now.items c.args.place c.index_mut.result.now (omega (arith, c.if-place-len.false, c.len.ensures)) c.index_mut.ensures.value) c.try_body.ensures
