use Rattle.std.proofs.Common.{◌≡◌, subst}
use Rattle.std.proofs.lemmas.Result.{IfOk-weaker}
use Rattle.flat_spec.specs.Flattening.{flattening}
use Rattle.occ_walk.specs.Left.{left}
use Rattle.occ_walk.proofs.LeftLemmas.{all_left}
use Rattle.flat_items.specs.Stand.{MayStand, stand_of}
use Rattle.par_parts.proofs.counted_ground.CountedGround.start.Goals as goal

pub returns-clause-stands : goal.returns-clause-stands
returns-clause-stands g c =
    IfOk-weaker c.start.result _ _ (λ place at. subst (λ d. MayStand d (stand_of place)) c.self.view_is at.stands) c.start.ensures

pub returns-clause-left : goal.returns-clause-left
returns-clause-left g c =
    let d = g.S.Shown.design c.self.inside.ground.design in
    IfOk-weaker c.start.result _ _
    (λ place at. subst (λ d. left d (stand_of place) ≡ flattening d) c.self.view_is (all_left d c.self.invariant.ground.valid c.self.invariant.ground.top (stand_of place) at)) c.start.ensures
