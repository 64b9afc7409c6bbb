use Rattle.std.proofs.Common.{◌≡◌, ◌+◌, ◌-◌, ◌++◌, length, take}
use Rattle.flat_lines_spec.specs.Lines.{item_lines}
use Rattle.history_turns.proofs.within.say_most.Given as goal

-- what was said and what is left to say within the limit are the whole, and so many items were said
abbrev pub invariant-loop-shown : goal.invariant-loop-shown
invariant-loop-shown l = record {
  whole : l.said.items ++ item_lines l.design.design (take (l.limit - l._shown) l.walk.left)
      ≡ l.fn.said.items ++ item_lines l.design.design (take l.limit l.fn.walk.left);
  counted : length l.fn.walk.left ≡ l._shown + length l.walk.left;
}
