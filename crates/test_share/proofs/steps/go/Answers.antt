use Rattle.test_share.proofs.Moves.{first_to, on_to}
use Rattle.test_share.proofs.steps.go.Goals as goal

pub loop-one-init : goal.loop-one-init
loop-one-init g c = first_to c.args.db.now c.args.caller.pass c.args.caller.tx c.requires.ready c.requires.tx

pub loop-one-preserved : goal.loop-one-preserved
loop-one-preserved g c =
    on_to c.args.db.now c.args.caller.pass c.loop-one.caller.pass c.one_step-caller.result.pass c.loop-one.caller.tx c.one_step-caller.result.tx c.loop-one.invariant c.one_step-caller.ensures

pub one_step-caller-requires-clause-ready : goal.one_step-caller-requires-clause-ready
one_step-caller-requires-clause-ready g c = c.loop-one.invariant.ready

pub one_step-caller-requires-clause-tx : goal.one_step-caller-requires-clause-tx
one_step-caller-requires-clause-tx g c = c.loop-one.invariant.pin

pub returns : goal.returns
returns g c = c.loop-one.invariant
