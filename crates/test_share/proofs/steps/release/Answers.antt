use Rattle.test_share.proofs.Moves.{none_to, pin_of}
use Rattle.test_share.proofs.steps.release.Goals as goal

pub release-requires-clause-pin : goal.release-requires-clause-pin
release-requires-clause-pin g c = pin_of c.args.db.now c.args.pass c.args.tx.pin c.abandon.result c.requires.pin c.abandon.ensures

pub returns : goal.returns
returns g c = none_to c.args.db.now c.args.pass c.release.new.pass c.release.ensures.on
