use Rattle.par_parts.proofs.CountLemmas.{are_counts}
use Rattle.par_parts.proofs.beside.parts_of.Goals as goal

pub ground_with-requires-clause-classes : goal.ground_with-requires-clause-classes
ground_with-requires-clause-classes g c = c.in_ok-classes.ensures.classes c.args.top c.requires.below

pub returns-clause-counts : goal.returns-clause-counts
returns-clause-counts g c =
    are_counts (g.S.Shown.design c.args.design) c.args.top c.args.below.now c.in_ok-classes.counts c.requires.below c.in_ok-classes.ensures.counts
