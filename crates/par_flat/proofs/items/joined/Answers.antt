use Rattle.par_flat.proofs.PartLemmas.{joined_more}
use Rattle.par_flat.proofs.items.joined.Goals as goal

pub loop-part-preserved : goal.loop-part-preserved
loop-part-preserved c =
    joined_more c.loop-part.yielded c.in-Some.part c.loop-part.all.items c.add_part.new.all.items c.loop-part.invariant c.in_ok-add_part.ensures.is c.in_ok-add_part.ensures.items
