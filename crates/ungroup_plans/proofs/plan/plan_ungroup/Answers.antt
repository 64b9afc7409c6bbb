use Rattle.std.proofs.Common.{List, length, get_or, drop, take, ap, refl, ◌∙◌, Ok, Some}
use Rattle.netlist_schema.specs.Types.{Contents, Inst}
use Rattle.ungroup_plans.specs.Heads.{site}
use Rattle.ungroup_plans.proofs.HeadLemmas.{no_inst}
use Rattle.ungroup_plans.specs.Moved.{notes_moved}
use Rattle.ungroup_plans.specs.Planned.{IsDissolved, IsPlanned}
use Rattle.ungroup_plans.specs.declared.plan.Ungrouped.{Ungrouped}
use Rattle.ungroup_plans.proofs.PlanLemmas.{children_are, made_is, only_limits, stands}
use Rattle.eco_reads.proofs.Outcomes.{handed_on}
use Rattle.ungroup_plans.proofs.plan.plan_ungroup.Goals as goal

pub returns : goal.returns
returns c =
    let around = c.in-Some.around.now in
    let within = c.in-Some-within.within in
    let place = c.in-Some-inst_place.place in
    let inst : Inst = get_or around.insts place no_inst in
    let at = stands around.insts place no_inst c.in-Some-inst_place.ensures.within in
    let done : IsDissolved (site around place inst within) (Ok c.in_ok-contents.contents) = c.in_ok-contents.ensures inst at in
    let made : Ungrouped = record { contents = c.in_ok-contents.contents; notes = c.in_ok-notes.notes } in
    let after = c.in_ok-contents.contents.insts in
    let kids : List Inst = take (length within.insts) (drop place after) in
    rw (c.in-Some.is, c.in-Some-within.is)
    (made_is around c.args.inst.now within place inst c.args.notes.now c.args.places.now made kids c.in-Some-inst_place.ensures.value at done
    (children_are around place inst within after kids (length within.insts) c.in-Some-inst_place.ensures.within refl (ap (λ (v : Contents). v.insts) done.1) refl)
    (c.in_ok-notes.ensures ∙ ap (λ v. notes_moved within.insts (take (length within.insts) v) c.args.notes.now c.args.places.now) c.iter_from-children.ensures))

pub returns-in_err-contents : goal.returns-in_err-contents
returns-in_err-contents c =
    let around = c.in-Some.around.now in
    let within = c.in-Some-within.within in
    let place = c.in-Some-inst_place.place in
    let inst : Inst = get_or around.insts place no_inst in
    let at = stands around.insts place no_inst c.in-Some-inst_place.ensures.within in
    rw (c.in-Some.is, c.in-Some-within.is)
    (handed_on (IsDissolved (site around place inst within)) (IsPlanned (Some around) c.args.inst.now (Some within) c.args.notes.now c.args.places.now)
    c.from_residual.result c.in_err-contents.field-0.0 c.from_residual.ensures.1 (c.in_err-contents.ensures inst at)
    (λ reply over. only_limits around c.args.inst.now within place inst c.in-Some-inst_place.ensures.value at ∙ over))
