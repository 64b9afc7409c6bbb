use Rattle.std.proofs.Common.{◌≡◌, ◌+◌, ◌++◌, ◌∷◌, [], ℕ, List, get_or, take, sym, subst}
use Rattle.std.proofs.lemmas.List.{take_all, take_more}
use Rattle.occ_walk.specs.Starts.{IsAtStart}
use Rattle.flat_items.specs.Stand.{stand_of}
use Rattle.occ_walk.proofs.StartLemmas.{step_there}
use Rattle.occ_walk.proofs.starts.go_along.Goals as goal

pub go_down-requires-clause-there : goal.go_down-requires-clause-there
go_down-requires-clause-there g c =
    step_there (g.S.Shown.design c.args.ground.now.design) c.args.path.now (stand_of c.loop-step.place) c.loop-step.step-index c.loop-step.invariant c.loop-step-test.true c.requires.there

pub loop-step-preserved : goal.loop-step-preserved
loop-step-preserved g c =
    let d = g.S.Shown.design c.args.ground.now.design in
    let path : List ℕ = c.args.path.now in
    let i : ℕ = c.loop-step.step-index in
    let more : take (i + 1) path ≡ take i path ++ get_or path i 0 ∷ [] = take_more path i 0 c.loop-step-test.true in
    let moved = subst (λ p. IsAtStart d (p ++ get_or path i 0 ∷ []) (stand_of c.go_down.new.place)) c.loop-step.invariant.path_is c.in_ok-go_down.ensures in
    subst (λ p. IsAtStart d p (stand_of c.go_down.new.place)) (sym more) moved

pub returns : goal.returns
returns g c =
    let d = g.S.Shown.design c.args.ground.now.design in
    subst (λ p. IsAtStart d p (stand_of c.loop-step.place)) (take_all c.loop-step.step-index c.args.path.now c.loop-step-test.false) c.loop-step.invariant
