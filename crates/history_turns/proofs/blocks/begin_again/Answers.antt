use Rattle.std.proofs.Common.{◌∙◌, ◌++◌, ap}
use Rattle.edit_spec.specs.Step.{run}
use Rattle.edit_tx.specs.Facts.{PinFacts, TxFacts}
use Rattle.history_turns.specs.Moves.{reply_lines}
use Rattle.history_turns.proofs.Blocking.{again_called}
use Rattle.history_turns.proofs.blocks.begin_again.Goals as goal

pub returns-in_ok-run_ops-in-Ok : goal.returns-in_ok-run_ops-in-Ok
returns-in_ok-run_ops-in-Ok c r lines =
    let pin = c.in-Ok.pin in
    let block = c.in_ok-block-in-Ok.block in
    let ran = c.in_ok-run_ops-in-Ok.ensures in
    let on = ap (λ (t : TxFacts). t.pin) c.in_ok-block-in-Ok.ensures.0 in
    again_called c.args.core.now c.pin.new.self c.args.caller r c.args.said.now.items c.say_begin.new.out.items c.run_ops.new.said.items pin c.version.result c.args.retries c.args.ops.now lines
    (record { tx = c.run_ops.new.tx; retries = block.retries }) c.history_is_legal.ensures.history.legal c.in-Ok.ensures c.version.ensures c.in_ok-say_begin-in-Ok.ensures.ok
    (ran.said ∙ ap (λ (p : PinFacts). c.say_begin.new.out.items ++ reply_lines (run p.design c.args.ops.now).replies) on)
    c.in_ok-block-in-Ok.ensures.1 ran.ops (ran.pin ∙ on)
