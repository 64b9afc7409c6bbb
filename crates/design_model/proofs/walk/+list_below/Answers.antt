use Rattle.std.proofs.Common.{◌≡◌, ◌<◌, ◌++◌, ◌∷◌, [], length, arith, get_or, refl, ap, subst, sym, ◌∙◌}
use Rattle.netlist_schema.specs.Types.{Inst}
use Rattle.flat_spec.specs.Occurrences.{occurrences}
use Rattle.flat_spec.proofs.RunLemmas.{all_found}
use Rattle.flat_spec.proofs.BelowLemmas.{below_each}
use Rattle.design_model.proofs.WalkLemmas.{root_found, instance_more, occurrences-fewer}
use Rattle.design_model.proofs.walk.+list_below.Goals as goal

pub loop-i-init : goal.loop-i-init
loop-i-init g t c =
    root_found (g.S.Shown.design c.args.design.now) c.requires.no_cycle c.args.path.now c.in_ok-here.here c.args.cell c.insts_at-insts.result
    c.args.found.now.items c.push.new.self.items c.in_ok-here.ensures.value c.insts_at-insts.ensures.value
    (c.in_ok-push.ensures.items ∙ ap (λ o. c.args.found.now.items ++ o ∷ []) c.of-2.ensures)

pub list_below-requires : goal.list_below-requires
list_below-requires g t c = λ κs within.
    let d = g.S.Shown.design c.args.design.now in
    let fewer = occurrences-fewer d c.requires.no_cycle c.args.cell c.insts_at-insts.result c.loop-i.i c.deref.result.now
    c.insts_at-insts.ensures.value (omega arith) (subst (λ (inst : Inst). inst ≡ get_or c.insts_at-insts.result c.loop-i.i inst) (sym c.deref.ensures) c.at-inst.ensures.is) in
    let same : length (occurrences d c.args.cell) ≡ t = c.decreases in
    let less : length (occurrences d c.deref.result.now.of) < t = omega (arith, fewer, same) in
    (less, (within, c.requires))

pub loop-i-preserved : goal.loop-i-preserved
loop-i-preserved g t c =
    instance_more (g.S.Shown.design c.args.design.now) c.args.path.now c.as_slice.result.now c.loop-i.i c.deref.result.now c.insts_at-insts.result
    c.loop-i.found.items c.list_below.new.found.items _ (omega arith)
    (subst (λ (inst : Inst). inst ≡ get_or c.insts_at-insts.result c.loop-i.i inst) (sym c.deref.ensures) c.at-inst.ensures.is)
    (c.as_slice.ensures.value ∙ c.in_ok-longer.ensures) c.in_ok-list_below.ensures c.loop-i.invariant

pub returns : goal.returns
returns g t c =
    all_found (below_each (g.S.Shown.design c.args.design.now) c.args.path.now c.loop-i.i) refl c.insts_at-insts.result c.loop-i.i c.loop-i.found.items _
    (omega arith) c.loop-i.invariant
