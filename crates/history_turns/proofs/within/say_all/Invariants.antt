use Rattle.std.proofs.Common.{◌≡◌, ◌++◌, length}
use Rattle.flat_lines_spec.specs.Lines.{item_lines}
use Rattle.history_turns.proofs.within.say_all.Given as goal

-- what was said and what is left to say are the whole
abbrev pub invariant-items : goal.invariant-items
invariant-items l = l.said.items ++ item_lines l.design.design l.walk.left ≡ l.fn.said.items ++ item_lines l.design.design l.fn.walk.left

abbrev pub decreases-items : goal.decreases-items
decreases-items l = length l.walk.left
