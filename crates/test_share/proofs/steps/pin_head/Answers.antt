use Rattle.test_share.proofs.Moves.{begun_to, none_to}
use Rattle.test_share.proofs.steps.pin_head.Goals as goal

pub returns-in-Ok : goal.returns-in-Ok
returns-in-Ok g c = begun_to c.args.db.now c.args.pass c.pin.new.pass c.begun.result.pass c.in-Ok.pin c.begun.result.tx c.pin.ensures.on c.in-Ok.ensures.answer.has c.begun.ensures.pass c.begun.ensures.tx

pub returns-in-Err : goal.returns-in-Err
returns-in-Err g c = none_to c.args.db.now c.args.pass c.pin.new.pass c.pin.ensures.on
