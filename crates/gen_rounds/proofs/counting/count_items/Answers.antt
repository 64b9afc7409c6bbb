use Rattle.std.proofs.Common.{sym}
use Rattle.gen_spec.specs.Summary.{counts_of}
use Rattle.gen_rounds.proofs.Counted.{all_counted, none_left, one_counted}
use Rattle.gen_rounds.proofs.counting.count_items.Goals as goal

pub loop-init : goal.loop-init
loop-init c = sym (all_counted c.args.walk.left)

pub loop-preserved : goal.loop-preserved
loop-preserved c =
    one_counted c.loop.counts c.in_ok-more-in-Ok-Some.more (counts_of c.args.walk.left) c.loop.walk.left c.next.new.self.left c.in-Ok-Some.item c.loop.invariant
    (rw c.in-Ok-Some.field-0-is at c.in-Ok-Some.ensures.some) c.in_ok-more-in-Ok-Some.ensures

pub returns-in-Ok-None : goal.returns-in-Ok-None
returns-in-Ok-None c =
    let none = rw c.in-Ok-None.field-0-is at c.in-Ok-None.ensures.none in
    none_left c.loop.counts (counts_of c.args.walk.left) c.loop.walk.left c.loop.invariant none.0
