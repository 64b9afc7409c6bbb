use Rattle.std.proofs.Common.{refl}
use Rattle.edit_spec.specs.DropInst.{without_inst}
use Rattle.std.specs.Option.{option_copied}
use Rattle.std.specs.Prelude.{Ok, Err}
use Rattle.edit_spec.specs.declared.ops.Op.TheVariants.{DropInst}
use Rattle.eco_reads.specs.declared.op_error.OpError.{OpError}
use Rattle.eco_reads.proofs.Outcomes.{done_or, missing_or}
use Rattle.eco_plans.proofs.Refusing.{plan_refused}
use Rattle.eco_reads.proofs.Reading.{read_some}
use Rattle.eco_ops.proofs.DropOps.{drop_can, drop_done, drop_read, drop_refused}
use Rattle.eco_ops.proofs.insts.drop_inst.Goals as goal

pub put_plan-requires : goal.put_plan-requires
put_plan-requires g c =
    drop_can (g.C.Cells.state c.args.cells.now) (g.C.Cells.state c.contents.follows.lender-at-none) c.args.name.now c.args.inst.now c.in_ok-id.id _ c.in_ok-others.others (Ok c.in_ok-plan.plan) c.in_ok-id.ensures.valid
    (drop_read (g.C.Cells.state c.args.cells.now) (g.C.Cells.state c.read_named.new.cells) (g.C.Cells.state c.other_notes.new.cells) (g.C.Cells.state c.contents.follows.lender-at-none) c.args.name.now c.args.inst.now c.in_ok-id.id _ c.in_ok-others.others c.in_ok-id.ensures.found c.in_ok-id.ensures.reads c.in_ok-others.ensures.notes c.in_ok-others.ensures.reads c.in_ok-contents.ensures.found (rw c.in_ok-contents.was at c.contents.follows.holds-at-none))
    c.in_ok-plan.ensures

pub returns : goal.returns
returns g c =
    done_or (g.C.Cells.state c.args.cells.now) (g.C.Cells.state c.put_plan.new.cells) (DropInst c.args.name.now c.args.inst.now) c.put_plan.result c.put_plan.ensures.err
    (drop_done (g.C.Cells.state c.args.cells.now) (g.C.Cells.state c.contents.follows.lender-at-none) (g.C.Cells.state c.put_plan.new.cells) c.args.name.now c.args.inst.now c.in_ok-id.id _ c.in_ok-others.others (Ok c.in_ok-plan.plan) c.put_plan.result
    (drop_read (g.C.Cells.state c.args.cells.now) (g.C.Cells.state c.read_named.new.cells) (g.C.Cells.state c.other_notes.new.cells) (g.C.Cells.state c.contents.follows.lender-at-none) c.args.name.now c.args.inst.now c.in_ok-id.id _ c.in_ok-others.others c.in_ok-id.ensures.found c.in_ok-id.ensures.reads c.in_ok-others.ensures.notes c.in_ok-others.ensures.reads c.in_ok-contents.ensures.found (rw c.in_ok-contents.was at c.contents.follows.holds-at-none))
    c.in_ok-plan.ensures c.put_plan.ensures.put)

pub returns-in_err-id : goal.returns-in_err-id
returns-in_err-id g c =
    missing_or (g.C.Cells.state c.args.cells.now) (g.C.Cells.state c.read_named.new.cells) (DropInst c.args.name.now c.args.inst.now) c.args.name.now c.from_residual.result c.in_err-id.field-0.0 c.from_residual.ensures.1 c.in_err-id.ensures.found c.in_err-id.ensures.reads
    (λ reply read missing. drop_refused (g.C.Cells.state c.args.cells.now) (g.C.Cells.state c.read_named.new.cells) c.args.name.now c.args.inst.now reply read missing)

pub returns-in_err-plan : goal.returns-in_err-plan
returns-in_err-plan g c =
    let found = drop_read (g.C.Cells.state c.args.cells.now) (g.C.Cells.state c.read_named.new.cells) (g.C.Cells.state c.other_notes.new.cells) (g.C.Cells.state c.contents.follows.lender-at-none) c.args.name.now c.args.inst.now c.in_ok-id.id _ c.in_ok-others.others c.in_ok-id.ensures.found c.in_ok-id.ensures.reads c.in_ok-others.ensures.notes c.in_ok-others.ensures.reads c.in_ok-contents.ensures.found (rw c.in_ok-contents.was at c.contents.follows.holds-at-none) in
    plan_refused (g.C.Cells.state c.args.cells.now) (g.C.Cells.state c.contents.follows.lender-at-none) (DropInst c.args.name.now c.args.inst.now) (option_copied c.in_ok-contents.field-0) _ (without_inst (option_copied c.in_ok-contents.field-0) c.args.inst.now) c.from_residual-in_err-plan.result c.in_err-plan.field-0.0 c.from_residual-in_err-plan.ensures.1 c.in_err-plan.ensures (read_some (g.C.Cells.state c.args.cells.now) (g.C.Cells.state c.contents.follows.lender-at-none) _ found.read)
    (λ reply planned. drop_done {E = OpError} (g.C.Cells.state c.args.cells.now) (g.C.Cells.state c.contents.follows.lender-at-none) (g.C.Cells.state c.contents.follows.lender-at-none) c.args.name.now c.args.inst.now c.in_ok-id.id _ c.in_ok-others.others (Err reply) (Ok reply) found planned (refl, refl))
