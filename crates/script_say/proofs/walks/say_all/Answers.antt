use Rattle.std.proofs.Common.{◌++◌, ◌∙◌}
use Rattle.flat_lines_spec.specs.Lines.{item_lines}
use Rattle.script_say.proofs.WalkLines.{grows_on, one_more}
use Rattle.script_say.proofs.walks.say_all.Goals as goal

pub items-preserved : goal.items-preserved
items-preserved g c =
    let d = g.S.Shown.design c.args.design.now in
    let next = rw c.if-not-branch.false at c.in_ok-say_next.ensures.next in
    record {
      same = c.say_next.ensures.same ∙ c.items.invariant.same;
      whole = one_more d c.items.out.items c.say_next.new.out.items (c.args.out.now.items ++ item_lines d c.args.walk.now.left) next.0 c.items.walk.left c.say_next.new.walk.left
          next.1 next.2 c.items.invariant.whole;
      grows = grows_on c.args.out.now.items c.items.out.items c.say_next.new.out.items c.items.invariant.grows c.say_next.ensures.grows;
    }
