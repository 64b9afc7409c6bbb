use Rattle.std.proofs.Common.{ap}
use Rattle.edit_tx.specs.Facts.{HasRun, TxFacts}
use Rattle.test_share.proofs.steps.run.Goals as goal

pub returns-in-Ok : goal.returns-in-Ok
returns-in-Ok c = let ran : HasRun c.args.tx.now c.run.follows.lender-at-none c.args.op = rw c.in-Ok.is at c.run.follows.holds-at-none in ran.pin

pub returns-in-Err : goal.returns-in-Err
returns-in-Err c = ap (λ (tx : TxFacts). tx.pin) (rw c.in-Err.is at c.run.follows.holds-at-none)
