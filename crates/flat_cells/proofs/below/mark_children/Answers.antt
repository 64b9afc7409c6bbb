use Rattle.std.proofs.Common.{◌≡◌, arith, get_or, subst, sym}
use Rattle.netlist_schema.specs.Types.{Inst}
use Rattle.flat_cells.proofs.MarkLemmas.{insts_more}
use Rattle.flat_cells.proofs.below.mark_children.Goals as goal

pub loop-place-preserved : goal.loop-place-preserved
loop-place-preserved g c =
    let insts = c.insts_at-insts.result in
    insts_more insts c.loop-place.place c.deref.result.now c.args.marks.now c.loop-place.marks c.set.new.self (omega arith)
    (subst (λ (inst : Inst). inst ≡ get_or insts c.loop-place.place inst) (sym c.deref.ensures) c.at.ensures.is) c.loop-place.invariant c.set.ensures
