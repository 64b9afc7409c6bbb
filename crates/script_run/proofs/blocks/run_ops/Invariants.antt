use Rattle.std.proofs.Common.{◌≡◌, ◌++◌, take}
use Rattle.edit_spec.specs.Step.{run}
use Rattle.script_run.specs.Coming.{reply_lines}
use Rattle.script_run.proofs.blocks.run_ops.Given as goal

-- the operations so far were run on the pin, and their replies said
abbrev pub invariant-loop-done : goal.invariant-loop-done
invariant-loop-done g l = record {
  ran : l.block.tx.ops ≡ take l.done l.ops;
  pin : l.block.tx.pin ≡ l.fn.block.tx.pin;
  retries : l.block.retries ≡ l.fn.block.retries;
  said : l.out.items ≡ l.fn.out.items ++ reply_lines (run l.fn.block.tx.pin.design (take l.done l.ops)).replies;
}
