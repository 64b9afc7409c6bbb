use Rattle.std.proofs.Common.{◌≡◌, ◌+◌, ◌++◌, ◌∷◌, [], ℕ, List, Some, None, get_or, take, refl, sym, ap, subst, ◌∙◌, slice_get}
use Rattle.std.specs.Option.{option_copied}
use Rattle.std.proofs.lemmas.List.{take_all, take_more}
use Rattle.netlist_schema.specs.Hierarchy.{insts_at}
use Rattle.netlist_schema.specs.Types.{CellId, Inst}
use Rattle.net_ways.specs.Climb.{AreCellsOn}
use Rattle.net_ways.proofs.AlongLemmas.{IsAlong, cell_at_root, leads_nowhere, one_step_more}
use Rattle.net_ways.proofs.climb.cells_along.Goals as goal

pub loop-step-init : goal.loop-step-init
loop-step-init g c = record {
  on_it = subst (λ (v : List CellId). AreCellsOn (g.S.Shown.design c.args.design.now) c.args.root [] v) (sym c.in_ok-cells.ensures) (cell_at_root (g.S.Shown.design c.args.design.now) c.args.root);
  at = refl;
}

pub returns-in_default : goal.returns-in_default
returns-in_default g c =
    let d = g.S.Shown.design c.args.design.now in
    let none : slice_get (insts_at d c.loop-step.cell) (get_or c.args.path.now c.loop-step.step-index 0) ≡ None = sym c.inst_at.ensures ∙ ap option_copied c.in_default.is in
    leads_nowhere d c.args.root c.args.path.now c.loop-step.step-index c.loop-step.cell c.loop-step-test.true c.loop-step.invariant.at none

pub loop-step-preserved : goal.loop-step-preserved
loop-step-preserved g c =
    let d = g.S.Shown.design c.args.design.now in
    let path : List ℕ = c.args.path.now in
    let i : ℕ = c.loop-step.step-index in
    let inst : Inst = c.in-Some.inst.now in
    let there : slice_get (insts_at d c.loop-step.cell) (get_or path i 0) ≡ Some inst = sym c.inst_at.ensures ∙ ap option_copied c.in-Some.is in
    let on = one_step_more d c.args.root (take i path) (get_or path i 0) c.loop-step.cells.items c.loop-step.cell inst there c.loop-step.invariant in
    let pushed = subst (λ (v : List CellId). IsAlong d c.args.root (take i path ++ get_or path i 0 ∷ []) v inst.of) (sym c.in_ok-push.ensures.items) on in
    subst (λ p. IsAlong d c.args.root p c.push.new.self.items inst.of) (sym (take_more path i 0 c.loop-step-test.true)) pushed

pub returns : goal.returns
returns g c =
    subst (λ p. AreCellsOn (g.S.Shown.design c.args.design.now) c.args.root p c.loop-step.cells.items) (take_all c.loop-step.step-index c.args.path.now c.loop-step-test.false) c.loop-step.invariant.on_it
