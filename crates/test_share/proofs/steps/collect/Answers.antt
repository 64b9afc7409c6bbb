use Rattle.test_share.proofs.Moves.{collected_to}
use Rattle.test_share.proofs.steps.collect.Goals as goal

pub returns : goal.returns
returns g c = collected_to c.args.db.now c.args.pass c.collect.new.pass c.args.tx c.collect.result c.requires.ready c.requires.tx c.collect.ensures.on c.collect.ensures.answer
