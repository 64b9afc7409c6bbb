use Rattle.std.proofs.Common.{◌∙◌, ap, arith}
use Rattle.flat_items.specs.Left.{is_over}
use Rattle.flat_items.specs.Stand.{stand_of}
use Rattle.occ_walk.proofs.LeftLemmas.{back_at, ended_at, entered_at, next_fits}
use Rattle.occ_walk.proofs.steps.go_on.Goals as goal

pub overflow_add-step : goal.overflow_add-step
overflow_add-step g c =
    let small = next_fits (g.S.Shown.design c.args.ground.now.design) c.requires.ground.valid (stand_of c.up.place) c.up.invariant.stands c.up.invariant.done c.as_slice.result.now c.as_slice.ensures.value
    c.in_ok-below.field-0 c.in_ok-below.ensures
    c.in-Some.below c.in-Some.is in
    omega (arith, small)

pub returns-in-Some-clause-stands : goal.returns-in-Some-clause-stands
returns-in-Some-clause-stands g c =
    (entered_at (g.S.Shown.design c.args.ground.now.design) c.requires.ground.valid (stand_of c.up.place) c.up.invariant.stands c.up.invariant.done c.as_slice.result.now c.as_slice.ensures.value
    c.in_ok-below.field-0 c.in_ok-below.ensures
    c.in-Some.below c.in-Some.is (stand_of c.enter.new.self) c.in_ok-enter.ensures.ok).0

pub returns-in-Some-clause-gone : goal.returns-in-Some-clause-gone
returns-in-Some-clause-gone g c = ap is_over c.in_ok-enter.ensures.ok.stage

pub returns-in-Some-clause-left : goal.returns-in-Some-clause-left
returns-in-Some-clause-left g c =
    (entered_at (g.S.Shown.design c.args.ground.now.design) c.requires.ground.valid (stand_of c.up.place) c.up.invariant.stands c.up.invariant.done c.as_slice.result.now c.as_slice.ensures.value
    c.in_ok-below.field-0 c.in_ok-below.ensures
    c.in-Some.below c.in-Some.is (stand_of c.enter.new.self) c.in_ok-enter.ensures.ok).1 ∙ c.up.invariant.same

pub returns-then-not-leave-clause-gone : goal.returns-then-not-leave-clause-gone
returns-then-not-leave-clause-gone g c =
    ended_at (g.S.Shown.design c.args.ground.now.design) c.requires.ground.valid (stand_of c.up.place) c.up.invariant.stands c.up.invariant.done c.as_slice.result.now c.as_slice.ensures.value
    c.in_ok-below.field-0 c.in_ok-below.ensures
    c.in_default.is (stand_of c.leave.new.self) c.if-not-leave.ensures

pub up-preserved : goal.up-preserved
up-preserved g c =
    let back = back_at (g.S.Shown.design c.args.ground.now.design) c.requires.ground.valid (stand_of c.up.place) c.up.invariant.stands c.up.invariant.done c.as_slice.result.now c.as_slice.ensures.value
    c.in_ok-below.field-0 c.in_ok-below.ensures
    c.in_default.is (stand_of c.leave.new.self) c.if-not-leave.ensures in
    record { stands = back.0; done = back.2; same = back.1 ∙ c.up.invariant.same }
