use Rattle.test_share.proofs.Moves.{edited_to, none_first}
use Rattle.test_share.proofs.steps.step_on.Goals as goal

pub returns-in-Do : goal.returns-in-Do
returns-in-Do g c = edited_to c.args.db.now c.args.pass c.args.tx.pin c.edit.result c.requires.ready c.requires.pin c.edit.ensures

pub returns-in-Refuse : goal.returns-in-Refuse
returns-in-Refuse g c = edited_to c.args.db.now c.args.pass c.args.tx.pin c.edit-in-Refuse.result c.requires.ready c.requires.pin c.edit-in-Refuse.ensures

pub returns-in_default : goal.returns-in_default
returns-in_default g c = none_first c.args.db.now c.args.pass c.requires.ready
