use Rattle.std.proofs.Common.{◌++◌, ◌∙◌, take}
use Rattle.flat_lines_spec.specs.Lines.{item_lines}
use Rattle.script_say.proofs.WalkLines.{grows_on, one_counted, one_more_within}
use Rattle.script_say.proofs.walks.say_most.Goals as goal

pub loop-told-preserved : goal.loop-told-preserved
loop-told-preserved g c =
    let d = g.S.Shown.design c.args.design.now in
    let next = rw c.if-not-branch.false at c.in_ok-say_next.ensures.next in
    record {
      same = c.say_next.ensures.same ∙ c.loop-told.invariant.same;
      whole = one_more_within d c.loop-told.out.items c.say_next.new.out.items (c.args.out.now.items ++ item_lines d (take c.args.limit c.args.walk.now.left)) next.0 c.loop-told.walk.left c.say_next.new.walk.left
          c.args.limit c.loop-told._told c.loop-told-test.true next.1 next.2 c.loop-told.invariant.whole;
      counted = one_counted c.args.walk.now.left c.loop-told.walk.left c.say_next.new.walk.left next.0 c.loop-told._told next.1 c.loop-told.invariant.counted;
      grows = grows_on c.args.out.now.items c.loop-told.out.items c.say_next.new.out.items c.loop-told.invariant.grows c.say_next.ensures.grows;
    }
