use Rattle.edit_tx.specs.Facts.{HasRun}
use Rattle.test_core.proofs.calls.run.Goals as goal

pub returns : goal.returns
returns g c = let ran : HasRun c.args.tx.now c.run.follows.lender-at-none c.op_of.result = rw c.in-Ok.is at c.run.follows.holds-at-none in ran.pin
