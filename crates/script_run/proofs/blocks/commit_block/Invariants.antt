use Rattle.script_run.proofs.Again.{IsUnderWay}
use Rattle.script_run.proofs.blocks.commit_block.Given as goal

-- the block has come so far
abbrev pub invariant-again : goal.invariant-again
invariant-again g l = IsUnderWay l.along.db.now l.fn.pass l.pass l.fn.out.items l.out.items l.fn.block l.block

-- the retries that are left
abbrev pub decreases-again : goal.decreases-again
decreases-again g l = l.block.retries
