use Rattle.std.proofs.Common.{ap, subst}
use Rattle.std.proofs.lemmas.Result.{on_ok_weaker}
use Rattle.edit_spec.specs.declared.ops.Op.{Op}
use Rattle.edit_tx.specs.Facts.{HasRun, TxFacts}
use Rattle.script_run.proofs.Again.{any_ok, said_reply}
use Rattle.script_run.proofs.blocks.try_op.Goals as goal

pub returns-in-Ok-clause-run : goal.returns-in-Ok-clause-run
returns-in-Ok-clause-run c =
    any_ok c.say_reply.result (HasRun c.args.tx.now c.run.follows.lender-at-none c.args.op.now)
    (subst (λ (op : Op). HasRun c.args.tx.now c.run.follows.lender-at-none op) c.in_ok-copy.ensures.same (rw c.in-Ok.is at c.run.follows.holds-at-none))

pub returns-in-Ok-clause-said : goal.returns-in-Ok-clause-said
returns-in-Ok-clause-said c =
    on_ok_weaker c.say_reply.result
    (said_reply c.args.tx.now.pin.design c.args.tx.now.ops c.args.op.now c.in_ok-copy.copy c.in-Ok.reply.now c.args.out.now.items c.say_reply.new.out.items c.in-Ok.ensures.reply c.in_ok-copy.ensures.same)
    c.say_reply.ensures.ok

pub returns-in-Ok-clause-pin : goal.returns-in-Ok-clause-pin
returns-in-Ok-clause-pin c = let ran : HasRun c.args.tx.now c.run.follows.lender-at-none c.in_ok-copy.copy = rw c.in-Ok.is at c.run.follows.holds-at-none in ran.pin

pub returns-in-Err-clause-pin : goal.returns-in-Err-clause-pin
returns-in-Err-clause-pin c = ap (λ (tx : TxFacts). tx.pin) (rw c.in-Err.is at c.run.follows.holds-at-none)
