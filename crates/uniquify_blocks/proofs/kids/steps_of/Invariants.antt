use Rattle.std.proofs.Common.{◌≡◌, take}
use Rattle.uniquify_blocks.specs.Kids.{steps_of}
use Rattle.uniquify_blocks.proofs.kids.steps_of.Given as goal

-- the instances so far are on the list
abbrev pub invariant-loop-place : goal.invariant-loop-place
invariant-loop-place l = l.steps.items ≡ steps_of (take l.place l.insts)
