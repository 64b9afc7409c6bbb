use Rattle.std.proofs.Common.{◌++◌, take}
use Rattle.flat_lines_spec.specs.Lines.{item_lines}
use Rattle.script_say.proofs.WalkLines.{one_counted, one_more_within}
use Rattle.history_turns.proofs.within.say_most.Goals as goal

pub loop-shown-preserved : goal.loop-shown-preserved
loop-shown-preserved c =
    let d = c.args.design.now.design in
    let next = rw c.if-not-branch.false at c.in_ok-say_next.ensures in
    record {
      whole = one_more_within d c.loop-shown.said.items c.say_next.new.said.items (c.args.said.now.items ++ item_lines d (take c.args.limit c.args.walk.now.left)) next.0 c.loop-shown.walk.left c.say_next.new.walk.left
          c.args.limit c.loop-shown._shown c.loop-shown-test.true next.1 next.2 c.loop-shown.invariant.whole;
      counted = one_counted c.args.walk.now.left c.loop-shown.walk.left c.say_next.new.walk.left next.0 c.loop-shown._shown next.1 c.loop-shown.invariant.counted;
    }
