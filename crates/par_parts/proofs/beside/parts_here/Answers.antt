use Rattle.std.proofs.Common.{subst}
use Rattle.par_parts.specs.Items.{AreCounted}
use Rattle.par_parts.proofs.CountLemmas.{are_counts}
use Rattle.par_parts.proofs.beside.parts_here.Goals as goal

pub returns-clause-counts : goal.returns-clause-counts
returns-clause-counts g c =
    let below = c.args.below.now in
    let counts = c.in_ok-counts.counts in
    are_counts (g.S.Shown.design c.args.design) c.args.top below counts c.requires.below
    (subst (λ v. AreCounted (g.S.Shown.design v) below counts) c.in_ok-ground.ensures.design c.in_ok-counts.ensures)
