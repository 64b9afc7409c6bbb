use Rattle.std.proofs.Common.{◌∙◌, ℕ, List, get_or, subst, sym, take}
use Rattle.std.specs.List.{AllPairs}
use Rattle.std.proofs.lemmas.List.{get_or_default, take_all}
use Rattle.flat_spec.specs.Paths.{Bit}
use Rattle.net_classes.specs.Joints.{IsNotBehind}
use Rattle.net_classes.specs.declared.joints.Joint.{Joint}
use Rattle.net_pins.specs.Levels.{IsNextOf, leads_in}
use Rattle.net_rows.specs.Rows.{joints_of}
use Rattle.net_pins.proofs.LevelLemmas.{leads_more, none_next}
use Rattle.net_pins.proofs.levels.next_lead.Goals as goal

pub loop-first-init : goal.loop-first-init
loop-first-init c = none_next c.args.inst (record { port = c.args.port; bit = c.args.bit })

pub joint_from-next-requires : goal.joint_from-next-requires
joint_from-next-requires c = subst (AllPairs IsNotBehind) (sym c.joints-joints.ensures) (c.requires (get_or c.as_slice-firsts.result.now c.loop-first.first-index 0))

pub loop-first-preserved : goal.loop-first-preserved
loop-first-preserved c =
    let k : ℕ = c.loop-first.first-index in
    let firsts : List ℕ = c.as_slice-firsts.result.now in
    let first : ℕ = get_or firsts k 0 in
    let cells = c.args.rows.now in
    let cell = c.args.level.now.cell in
    let b : Bit = record { port = c.args.port; bit = c.args.bit } in
    subst (λ (js : List Joint). IsNextOf js c.args.inst b c.earlier-found.result)
    (sym (leads_more cells cell firsts k first c.loop-first-test.true (get_or_default firsts k first 0 c.loop-first-test.true)))
    (c.earlier-found.ensures (leads_in cells cell (take k firsts)) (joints_of cells cell first) c.args.inst b c.loop-first.invariant
    (subst (λ (js : List Joint). IsNextOf js c.args.inst b c.joint_from-next.result) c.joints-joints.ensures c.joint_from-next.ensures))

pub returns : goal.returns
returns c =
    let b : Bit = record { port = c.args.port; bit = c.args.bit } in
    subst (λ (fs : List ℕ). IsNextOf (leads_in c.args.rows.now c.args.level.now.cell fs) c.args.inst b c.loop-first.found)
    (take_all c.loop-first.first-index c.as_slice-firsts.result.now c.loop-first-test.false ∙ c.as_slice-firsts.ensures.value) c.loop-first.invariant
