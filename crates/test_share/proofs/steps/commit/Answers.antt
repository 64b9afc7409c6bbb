use Rattle.test_share.proofs.Moves.{accepted_to, refused_to}
use Rattle.test_share.proofs.steps.commit.Goals as goal

pub returns-in-Ok : goal.returns-in-Ok
returns-in-Ok g c =
    accepted_to c.args.db.now c.args.pass c.commit.new.pass c.begun.result.pass c.args.tx _ c.in-Ok.pin c.begun.result.tx c.commit.ensures.on c.in-Ok.ensures.answer c.begun.ensures.pass c.begun.ensures.tx

pub returns-in-Err : goal.returns-in-Err
returns-in-Err g c = refused_to c.args.db.now c.args.pass c.commit.new.pass c.args.tx c.in-Err.back _ c.requires.ready c.requires.pin c.commit.ensures.on c.in-Err.ensures.answer
