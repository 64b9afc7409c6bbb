use Rattle.std.proofs.Common.{ℕ, subst}
use Rattle.flat_items.specs.Moves.{HasEntered}
use Rattle.flat_items.specs.Stand.{stand_of}
use Rattle.occ_walk.proofs.StartLemmas.{down_at, none_down}
use Rattle.occ_walk.proofs.starts.go_down.Goals as goal

pub returns-in_default : goal.returns-in_default
returns-in_default g c =
    absurd (none_down (g.S.Shown.design c.args.ground.now.design) (stand_of c.args.place.now) c.args.step c.requires.there c.as_slice.result.now c.as_slice.ensures.value c.in_ok-found.found
    c.in_ok-found.ensures
    c.in_default.is)

pub returns : goal.returns
returns g c =
    down_at (g.S.Shown.design c.args.ground.now.design) (stand_of c.args.place.now) c.args.step c.requires.there c.as_slice.result.now c.as_slice.ensures.value c.in_ok-found.found
    c.in_ok-found.ensures
    c.args.place.now.path.steps.items c.requires.start c.in-Some.below c.in-Some.is c.insts_at.result c.insts_at.ensures.value (stand_of c.enter.new.self)
    (subst (λ (n : ℕ). HasEntered (stand_of c.args.place.now) c.args.step n c.in-Some.below.name.now c.in-Some.below.frame (stand_of c.enter.new.self)) c.len-count.ensures c.in_ok-enter.ensures.ok)
