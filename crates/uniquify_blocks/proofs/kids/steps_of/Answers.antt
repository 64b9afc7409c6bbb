use Rattle.std.proofs.Common.{◌≡◌, arith, get_or, subst, sym}
use Rattle.netlist_schema.specs.Types.{Inst}
use Rattle.uniquify_blocks.proofs.Instances.{steps_count, steps_more}
use Rattle.uniquify_blocks.proofs.kids.steps_of.Goals as goal

pub loop-place-preserved : goal.loop-place-preserved
loop-place-preserved c =
    let insts = c.args.insts.now in
    let place = c.loop-place.place in
    let is = subst (λ (inst : Inst). inst ≡ get_or insts place inst) (sym c.deref.ensures) c.at.ensures.is in
    steps_more insts place c.deref.result.now c.loop-place.steps.items c.push.new.self.items place (omega arith) is
    c.loop-place.invariant (steps_count insts place c.loop-place.steps.items (omega arith) c.loop-place.invariant) c.in_ok-push.ensures.items
