use Rattle.test_share.proofs.Moves.{none_first}
use Rattle.test_share.proofs.steps.step_off.Goals as goal

pub returns-in_default : goal.returns-in_default
returns-in_default g c = none_first c.args.db.now c.args.pass c.requires
