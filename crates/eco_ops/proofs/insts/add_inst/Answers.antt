use Rattle.std.proofs.Common.{refl}
use Rattle.eco_ops.specs.Insts.{more_insts}
use Rattle.std.specs.Option.{option_copied}
use Rattle.std.specs.Prelude.{Ok, Err}
use Rattle.eco_ops.proofs.InstOps.{add_inst_can, add_inst_done, holder_missing, placed_missing, walked_both}
use Rattle.edit_spec.specs.declared.ops.Op.TheVariants.{AddInst}
use Rattle.eco_reads.specs.declared.op_error.OpError.{OpError}
use Rattle.eco_reads.proofs.Outcomes.{done_or}
use Rattle.eco_plans.proofs.Refusing.{plan_refused}
use Rattle.eco_reads.proofs.Reading.{read_some}
use Rattle.eco_ops.proofs.insts.add_inst.Goals as goal

pub returns-in-Err : goal.returns-in-Err
returns-in-Err g c =
    holder_missing (g.C.Cells.state c.args.cells.now) (g.C.Cells.state c.find_named.new.cells) (g.C.Cells.state c.find_named-2.new.cells) c.args.name.now c.args.of.now c.args.inst.now c.in-Err.refusal c.in_ok-holder.ensures.reads c.in_ok-placed.ensures.reads (rw c.in-Err.is at c.in_ok-holder.ensures.found)

pub returns-in-Err-placed : goal.returns-in-Err-placed
returns-in-Err-placed g c =
    placed_missing (g.C.Cells.state c.args.cells.now) (g.C.Cells.state c.find_named.new.cells) (g.C.Cells.state c.find_named-2.new.cells) c.args.name.now c.args.of.now c.args.inst.now c.in-Ok.id c.in-Err-placed.refusal c.in_ok-holder.ensures.reads c.in_ok-placed.ensures.reads (rw c.in-Ok.is at c.in_ok-holder.ensures.found) (rw c.in-Err-placed.is at c.in_ok-placed.ensures.found)

pub put_plan-requires : goal.put_plan-requires
put_plan-requires g c =
    add_inst_can (g.C.Cells.state c.args.cells.now) (g.C.Cells.state c.contents.follows.lender-at-none) c.args.name.now c.args.of.now c.args.inst.now c.in-Ok.id c.in-Ok-placed.of _ c.in_ok-cyclic.cyclic _ (Ok c.in_ok-plan.plan) c.requires c.in_ok-holder.ensures.valid
    (walked_both (g.C.Cells.state c.args.cells.now) (g.C.Cells.state c.find_named.new.cells) (g.C.Cells.state c.find_named-2.new.cells) (g.C.Cells.state c.reaches.new.cells) (g.C.Cells.state c.contents.follows.lender-at-none) c.args.name.now c.args.of.now c.in-Ok.id c.in-Ok-placed.of _ c.in_ok-cyclic.cyclic c.in_ok-holder.ensures.valid
    (rw c.in-Ok.is at c.in_ok-holder.ensures.found) c.in_ok-holder.ensures.reads (rw c.in-Ok-placed.is at c.in_ok-placed.ensures.found) c.in_ok-placed.ensures.reads
    c.in_ok-cyclic.ensures.found c.in_ok-cyclic.ensures.reads c.in_ok-contents.ensures.found (rw c.in_ok-contents.was at c.contents.follows.holds-at-none)) refl c.in_ok-plan.ensures

pub returns : goal.returns
returns g c =
    done_or (g.C.Cells.state c.args.cells.now) (g.C.Cells.state c.put_plan.new.cells) (AddInst c.args.name.now c.args.inst.now c.args.of.now) c.put_plan.result c.put_plan.ensures.err
    (add_inst_done (g.C.Cells.state c.args.cells.now) (g.C.Cells.state c.contents.follows.lender-at-none) (g.C.Cells.state c.put_plan.new.cells) c.args.name.now c.args.of.now c.args.inst.now c.in-Ok.id c.in-Ok-placed.of _ c.in_ok-cyclic.cyclic _ (Ok c.in_ok-plan.plan) c.put_plan.result
    (walked_both (g.C.Cells.state c.args.cells.now) (g.C.Cells.state c.find_named.new.cells) (g.C.Cells.state c.find_named-2.new.cells) (g.C.Cells.state c.reaches.new.cells) (g.C.Cells.state c.contents.follows.lender-at-none) c.args.name.now c.args.of.now c.in-Ok.id c.in-Ok-placed.of _ c.in_ok-cyclic.cyclic c.in_ok-holder.ensures.valid
    (rw c.in-Ok.is at c.in_ok-holder.ensures.found) c.in_ok-holder.ensures.reads (rw c.in-Ok-placed.is at c.in_ok-placed.ensures.found) c.in_ok-placed.ensures.reads
    c.in_ok-cyclic.ensures.found c.in_ok-cyclic.ensures.reads c.in_ok-contents.ensures.found (rw c.in_ok-contents.was at c.contents.follows.holds-at-none)) refl c.in_ok-plan.ensures c.put_plan.ensures.put)

pub returns-in_err-plan : goal.returns-in_err-plan
returns-in_err-plan g c =
    let walked = walked_both (g.C.Cells.state c.args.cells.now) (g.C.Cells.state c.find_named.new.cells) (g.C.Cells.state c.find_named-2.new.cells) (g.C.Cells.state c.reaches.new.cells) (g.C.Cells.state c.contents.follows.lender-at-none) c.args.name.now c.args.of.now c.in-Ok.id c.in-Ok-placed.of _ c.in_ok-cyclic.cyclic c.in_ok-holder.ensures.valid
    (rw c.in-Ok.is at c.in_ok-holder.ensures.found) c.in_ok-holder.ensures.reads (rw c.in-Ok-placed.is at c.in_ok-placed.ensures.found) c.in_ok-placed.ensures.reads
    c.in_ok-cyclic.ensures.found c.in_ok-cyclic.ensures.reads c.in_ok-contents.ensures.found (rw c.in_ok-contents.was at c.contents.follows.holds-at-none) in
    plan_refused (g.C.Cells.state c.args.cells.now) (g.C.Cells.state c.contents.follows.lender-at-none) (AddInst c.args.name.now c.args.inst.now c.args.of.now) (option_copied c.in_ok-contents.field-0) _ (more_insts c.args.inst.now c.in-Ok-placed.of (option_copied c.in_ok-contents.field-0)) c.from_residual-in_err-plan.result c.in_err-plan.field-0.0 c.from_residual-in_err-plan.ensures.1 c.in_err-plan.ensures (read_some (g.C.Cells.state c.args.cells.now) (g.C.Cells.state c.contents.follows.lender-at-none) _ walked.read)
    (λ reply planned. add_inst_done {E = OpError} (g.C.Cells.state c.args.cells.now) (g.C.Cells.state c.contents.follows.lender-at-none) (g.C.Cells.state c.contents.follows.lender-at-none) c.args.name.now c.args.of.now c.args.inst.now c.in-Ok.id c.in-Ok-placed.of _ c.in_ok-cyclic.cyclic _ (Err reply) (Ok reply)
    walked refl planned (refl, refl))
