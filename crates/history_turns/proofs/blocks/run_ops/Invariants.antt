use Rattle.std.proofs.Common.{◌≡◌, ◌++◌, take}
use Rattle.edit_spec.specs.Step.{run}
use Rattle.history_turns.specs.Moves.{reply_lines}
use Rattle.history_turns.proofs.blocks.run_ops.Given as goal

-- the operations so far were run on the pin, and their replies said
abbrev pub invariant-loop-done : goal.invariant-loop-done
invariant-loop-done l = record {
  ran : l.tx.ops ≡ take l.done l.ops;
  pin : l.tx.pin ≡ l.fn.tx.pin;
  said : l.said.items ≡ l.fn.said.items ++ reply_lines (run l.fn.tx.pin.design (take l.done l.ops)).replies;
}
