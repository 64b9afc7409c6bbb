use Rattle.test_share.proofs.Moves.{none_first, on_to}
use Rattle.test_share.proofs.many.go_rounds.Goals as goal

pub loop-round-init : goal.loop-round-init
loop-round-init g c = none_first c.args.db.now c.args.pass c.requires

pub loop-round-preserved : goal.loop-round-preserved
loop-round-preserved g c =
    on_to c.args.db.now c.args.pass c.loop-round.caller.pass c.go_round-caller.result.pass c.loop-round.caller.tx c.go_round-caller.result.tx c.loop-round.invariant c.go_round-caller.ensures

pub returns : goal.returns
returns g c = (c.loop-round.invariant.ready, c.loop-round.invariant.number)

pub go_round-caller-requires-clause-ready : goal.go_round-caller-requires-clause-ready
go_round-caller-requires-clause-ready g c = c.loop-round.invariant.ready

pub go_round-caller-requires-clause-tx : goal.go_round-caller-requires-clause-tx
go_round-caller-requires-clause-tx g c = c.loop-round.invariant.pin
