use Rattle.std.proofs.Common.{refl, ◌∙◌}
use Rattle.flat_writer.proofs.GivenLemmas.{all_given, fewer_left, none_given, one_given}
use Rattle.flat_writer.proofs.flat.put_left.Goals as goal

pub lines-init : goal.lines-init
lines-init g c = record { same = refl; given = none_given c.args.out.now c.args.page.now c.args.walk.now.design c.args.limit c.args.walk.now.left }

pub lines-preserved : goal.lines-preserved
lines-preserved g c =
    record {
      same = c.put_next.ensures.same ∙ c.lines.invariant.same;
      given = rw c.one_less-room.ensures
          (one_given c.args.walk.now.design c.args.limit c.lines.room c.args.walk.now.left c.lines.walk.left c.put_next.new.walk.left c.lines.invariant.given (rw c.lines.invariant.same at c.if-not-put_next.ensures.gives));
    }

pub lines-smaller : goal.lines-smaller
lines-smaller g c = fewer_left c.lines.walk.design c.lines.room c.lines.walk.left c.put_next.new.walk.left c.if-not-put_next.ensures.gives

pub returns-then-not-put_next : goal.returns-then-not-put_next
returns-then-not-put_next g c =
    all_given c.args.walk.now.design c.args.limit c.lines.room c.args.walk.now.left c.lines.walk.left c.put_next.new.walk.left c.lines.invariant.given (rw c.lines.invariant.same at c.if-not-put_next.ensures.gives)
