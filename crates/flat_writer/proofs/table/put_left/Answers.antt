use Rattle.std.proofs.Common.{refl, ◌∙◌}
use Rattle.flat_writer.proofs.RowLemmas.{all_given, fewer_left, none_given, one_given}
use Rattle.flat_writer.proofs.table.put_left.Goals as goal

pub rows-init : goal.rows-init
rows-init g c = record { same = refl; given = none_given c.args.out.now c.args.page.now c.args.walk.now.design c.args.walk.now.left }

pub rows-preserved : goal.rows-preserved
rows-preserved g c = record { same = c.put_next.ensures.same ∙ c.rows.invariant.same; given = one_given c.args.walk.now.design c.args.walk.now.left c.rows.walk.left c.put_next.new.walk.left c.rows.invariant.given (rw c.rows.invariant.same at c.if-not-put_next.ensures.gives) }

pub rows-smaller : goal.rows-smaller
rows-smaller g c = fewer_left c.rows.walk.design c.rows.walk.left c.put_next.new.walk.left c.if-not-put_next.ensures.gives

pub returns-then-not-put_next : goal.returns-then-not-put_next
returns-then-not-put_next g c = all_given c.args.walk.now.design c.args.walk.now.left c.rows.walk.left c.put_next.new.walk.left c.rows.invariant.given (rw c.rows.invariant.same at c.if-not-put_next.ensures.gives)
