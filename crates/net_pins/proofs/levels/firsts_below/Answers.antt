use Rattle.std.proofs.Common.{◌∙◌, [], ℕ, List, get_or, inl, inr, subst, sym, take}
use Rattle.std.specs.Prelude.{◌↔◌}
use Rattle.std.specs.List.{AllPairs, Contains}
use Rattle.std.proofs.lemmas.List.{get_or_default, take_all}
use Rattle.net_classes.specs.Joints.{IsNotBehind}
use Rattle.net_classes.specs.declared.joints.Joint.{Joint}
use Rattle.net_pins.specs.Levels.{AreAdded, LeadsTo, leads_in}
use Rattle.net_rows.specs.Rows.{joints_of}
use Rattle.net_classes.specs.Facts.{Facts}
use Rattle.netlist_schema.specs.Types.{CellId}
use Rattle.flat_spec.proofs.ListLemmas.{Contains-member}
use Rattle.net_pins.proofs.LevelLemmas.{added_both, added_none, added_others, leads_more}
use Rattle.net_pins.proofs.levels.firsts_below.Goals as goal

-- where none was there before, just those that are led to are there
added_only : (facts : Facts) (of : CellId) (inst : ℕ) (xs : List Joint) (new : List ℕ) → AreAdded facts of inst xs [] new → (f : ℕ) → Contains new f ↔ LeadsTo facts of inst xs f
added_only facts of inst xs new h f = (
  λ has. elim ((h f).0 has) [ inl none ↦ absurd (Contains-member [] f none) | inr led ↦ led ],
  λ led. (h f).1 (inr led),
)

pub loop-first-init : goal.loop-first-init
loop-first-init c =
    subst (λ (fs : List ℕ). AreAdded c.args.classes.now c.args.of c.args.inst [] [] fs) (sym c.new-firsts.ensures.items) (added_none c.args.classes.now c.args.of c.args.inst [])

pub from_inst-requires : goal.from_inst-requires
from_inst-requires c = subst (AllPairs IsNotBehind) (sym c.joints-joints.ensures) (c.requires (get_or c.as_slice-above.result.now c.loop-first.first-index 0))

pub loop-first-preserved : goal.loop-first-preserved
loop-first-preserved c =
    let k : ℕ = c.loop-first.first-index in
    let above : List ℕ = c.as_slice-above.result.now in
    let first : ℕ = get_or above k 0 in
    let facts = c.args.classes.now in
    let cells = c.args.rows.now in
    let cell = c.args.level.now.cell in
    let old : List ℕ = c.loop-first.firsts.items in
    let new : List ℕ = c.add_leads.new.firsts.items in
    subst (λ (js : List Joint). AreAdded facts c.args.of c.args.inst js [] new)
    (sym (leads_more cells cell above k first c.loop-first-test.true (get_or_default above k first 0 c.loop-first-test.true)))
    (added_both facts c.args.of c.args.inst (leads_in cells cell (take k above)) (joints_of cells cell first) [] old new c.loop-first.invariant
    (added_others facts c.args.of c.args.inst c.from_inst.result.now (joints_of cells cell first) old new
    (λ j has on_it. (c.from_inst.ensures.all j on_it).1 (subst (λ (js : List Joint). Contains js j) (sym c.joints-joints.ensures) has))
    (λ j has on_it. subst (λ (js : List Joint). Contains js j) c.joints-joints.ensures ((c.from_inst.ensures.all j on_it).0 has))
    c.in_ok-add_leads.ensures))

pub returns : goal.returns
returns c = λ f.
    let facts = c.args.classes.now in
    let joints = leads_in c.args.rows.now c.args.level.now.cell in
    subst (λ (fs : List ℕ). Contains c.loop-first.firsts.items f ↔ LeadsTo facts c.args.of c.args.inst (joints fs) f)
    (take_all c.loop-first.first-index c.as_slice-above.result.now c.loop-first-test.false ∙ c.as_slice-above.ensures.value)
    (added_only facts c.args.of c.args.inst (joints (take c.loop-first.first-index c.as_slice-above.result.now)) c.loop-first.firsts.items c.loop-first.invariant f)
