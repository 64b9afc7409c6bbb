use Rattle.std.proofs.Common.{◌≡◌, ◌∙◌, ◌+◌, ◌-◌, refl, sym, ap, subst, arith, Some, slice_get}
use Rattle.std.specs.Option.{option_copied}
use Rattle.netlist_schema.specs.Design.{Design}
use Rattle.netlist_schema.specs.Hierarchy.{insts_at}
use Rattle.flat_items.specs.Moves.{going_on}
use Rattle.flat_items.specs.Stand.{MayStand, Stand, stand_of}
use Rattle.occ_walk.proofs.BelowLemmas.{next_is_small}
use Rattle.par_parts.specs.Skip.{IsBehindInst}
use Rattle.par_parts.proofs.PassLemmas.{inst_passed}
use Rattle.par_parts.proofs.counted_ground.CountedGround.pass_inst.Goals as goal

pub overflow_add-place : goal.overflow_add-place
overflow_add-place g c =
    let d = g.S.Shown.design c.self.inside.ground.design in
    let there : slice_get (insts_at d c.args.place.now.here.cell) c.args.place.now.here.next ≡ Some c.in_ok-inst.inst.now = sym c.inst_at.ensures ∙ ap option_copied c.in_ok-inst.was in
    let small = next_is_small d c.self.invariant.ground.valid c.args.place.now.here.cell c.args.place.now.here.next c.in_ok-inst.inst.now there in
    omega (arith, small)

pub returns : goal.returns
returns g c =
    let d = g.S.Shown.design c.self.inside.ground.design in
    let old : Stand = stand_of c.args.place.now in
    let new : Stand = record { above = old.above; here = going_on old.here (old.here.next + 1) old.here.near; stage = old.stage; path = old.path; text = old.text } in
    let there : slice_get (insts_at d c.args.place.now.here.cell) c.args.place.now.here.next ≡ Some c.in_ok-inst.inst.now = sym c.inst_at.ensures ∙ ap option_copied c.in_ok-inst.was in
    let stands = subst (λ (v : Design). MayStand v old) (sym c.self.view_is) c.requires.stands in
    subst (λ (v : Design). IsBehindInst v c.args.count old new (c.args.count - c.in_ok-passed.passed)) c.self.view_is
    (inst_passed d c.self.inside.ground.classes c.self.inside.ground.notes c.self.inside.counts c.self.inside.top c.self.invariant
    old new c.in_ok-inst.inst.now c.args.count c.in_ok-passed.passed stands c.requires.over there c.in_ok-passed.ensures refl)
