use Rattle.std.proofs.Common.{◌≡◌, sym, ap, subst, ◌∙◌, Some, slice_get}
use Rattle.std.proofs.lemmas.Option.{get_or_from_slice_get, slice_get_within}
use Rattle.netlist_schema.specs.Types.{Inst}
use Rattle.flat_spec.specs.Effective.{base_properties}
use Rattle.flat_spec.specs.Paths.{Reaches}
use Rattle.flat_items.specs.Stand.{top_of}
use Rattle.flat_items.proofs.EnterLemmas.{base_of_inst, last_inst}
use Rattle.flat_items.proofs.enter.base_properties.Goals as goal

pub at-requires : goal.at-requires
at-requires g c =
    let d = g.S.Shown.design c.args.design.now in
    let parent = c.in-Some.parent in
    let at = c.in-Some.ensures d c.requires in
    let here = subst (λ p. Reaches d (top_of d).cell p c.args.place.now.here.cell) at.0 c.requires.here.reached in
    let inst = last_inst d (top_of d).cell parent.frame.now.cell c.args.place.now.here.cell parent.path.now parent.step at.1.reached here in
    let there : slice_get c.insts_at-insts.result parent.step ≡ Some inst.0 = ap (λ v. slice_get v parent.step) c.insts_at-insts.ensures.value ∙ inst.1 in
    slice_get_within c.insts_at-insts.result parent.step inst.0 there

pub returns-in-Some : goal.returns-in-Some
returns-in-Some g c =
    let d = g.S.Shown.design c.args.design.now in
    let parent = c.in-Some.parent in
    let at = c.in-Some.ensures d c.requires in
    let here = subst (λ p. Reaches d (top_of d).cell p c.args.place.now.here.cell) at.0 c.requires.here.reached in
    let inst = last_inst d (top_of d).cell parent.frame.now.cell c.args.place.now.here.cell parent.path.now parent.step at.1.reached here in
    let there : slice_get c.insts_at-insts.result parent.step ≡ Some inst.0 = ap (λ v. slice_get v parent.step) c.insts_at-insts.ensures.value ∙ inst.1 in
    let found : c.deref.result.now ≡ inst.0 =
    c.deref.ensures ∙ (c.at.ensures.is ∙ get_or_from_slice_get c.insts_at-insts.result parent.step inst.0 c.at.result.now there) in
    c.as_slice.ensures
    ∙ ap (λ (v : Inst). v.properties) found
    ∙ sym (base_of_inst d (top_of d) parent.path.now parent.frame.now.cell parent.step inst.0 at.1.reached inst.1)
    ∙ ap (base_properties d (top_of d)) (sym at.0)
