use Rattle.std.proofs.Common.{◌∙◌, ◌-◌, ◌^◌, [], length, min, ap, sym}
use Rattle.flat_spec.specs.Below.{items_under}
use Rattle.flat_spec.specs.Flattening.{flattening}
use Rattle.flat_spec.proofs.BelowLemmas.{flattening_is_under_top}
use Rattle.flat_items.specs.Stand.{top_of}
use Rattle.par_parts.proofs.counted_ground.CountedGround.item_count.Goals as goal

pub returns : goal.returns
returns g c =
    let d = g.S.Shown.design c.self.inside.ground.design in
    c.count_top.ensures (top_of d) c.self.invariant.top_is
    ∙ ap (λ v. min (length (items_under d (top_of d) [] v)) (2 ^ 64 - 1)) (sym c.self.invariant.top_is)
    ∙ ap (λ v. min (length v) (2 ^ 64 - 1)) (sym (flattening_is_under_top d (top_of d) c.self.invariant.ground.top))
    ∙ ap (λ v. min (length (flattening v)) (2 ^ 64 - 1)) c.self.view_is
