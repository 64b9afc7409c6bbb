use Rattle.std.proofs.Common.{◌≡◌, subst, sym}
use Rattle.flat_items.specs.Stand.{top_of}
use Rattle.par_parts.specs.Items.{AreCounts}
use Rattle.par_parts.proofs.counted_ground.ground_by.Goals as goal

pub invariant_of-result : goal.invariant_of-result
invariant_of-result g c = record {
  ground = c.in_ok-ground.ensures.ground;
  counted = subst (λ v. AreCounts (g.S.Shown.design v) c.args.top c.in_ok-ground.counts) (sym c.in_ok-ground.ensures.design) c.in_ok-ground.ensures.counts;
  top_is = subst (λ v. (top_of (g.S.Shown.design v)).cell ≡ c.args.top) (sym c.in_ok-ground.ensures.design) c.requires.is_top;
}
