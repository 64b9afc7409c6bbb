use Rattle.history_turns.proofs.Quieting.{run_passed}
use Rattle.history_turns.proofs.quiet.block_line.Goals as goal

pub returns-in_ok-try_op-in-Run : goal.returns-in_ok-try_op-in-Run
returns-in_ok-try_op-in-Run c most = rw c.in-Run.is (run_passed c.args.block.tx c.try_op.new.tx c.args.block.retries c.in-Run.op c.args.said.now.items c.try_op.new.said.items c.in_ok-try_op-in-Run.ensures.run c.in_ok-try_op-in-Run.ensures.said)
