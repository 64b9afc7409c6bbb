use Rattle.std.proofs.Common.{refl}
use Rattle.std.specs.Option.{option_copied}
use Rattle.std.specs.Prelude.{Ok, Err}
use Rattle.edit_spec.specs.declared.ops.Op.TheVariants.{DropNet}
use Rattle.eco_reads.specs.declared.op_error.OpError.{OpError}
use Rattle.eco_reads.proofs.Outcomes.{done_or, missing_or}
use Rattle.eco_plans.proofs.Refusing.{plan_refused}
use Rattle.eco_reads.proofs.Reading.{found_inside, read_some}
use Rattle.eco_plans.proofs.Missing.{drop_net_missing}
use Rattle.eco_plans.proofs.NetOps.{drop_net_can, drop_net_done, fewer_nets}
use Rattle.eco_plans.proofs.nets.drop_net.Goals as goal

pub put_plan-requires : goal.put_plan-requires
put_plan-requires g c =
    drop_net_can (g.C.Cells.state c.args.cells.now) (g.C.Cells.state c.contents.follows.lender-at-none) c.args.name.now c.args.net.now c.in_ok-id.id _ (Ok c.in_ok-plan.plan) c.in_ok-id.ensures.valid
    (found_inside (g.C.Cells.state c.args.cells.now) (g.C.Cells.state c.read_named.new.cells) (g.C.Cells.state c.contents.follows.lender-at-none) c.args.name.now c.in_ok-id.id _ c.in_ok-id.ensures.found c.in_ok-id.ensures.reads c.in_ok-contents.ensures.found (rw c.in_ok-contents.was at c.contents.follows.holds-at-none))
    c.in_ok-plan.ensures

pub returns : goal.returns
returns g c =
    done_or (g.C.Cells.state c.args.cells.now) (g.C.Cells.state c.put_plan.new.cells) (DropNet c.args.name.now c.args.net.now) c.put_plan.result c.put_plan.ensures.err
    (drop_net_done (g.C.Cells.state c.args.cells.now) (g.C.Cells.state c.contents.follows.lender-at-none) (g.C.Cells.state c.put_plan.new.cells) c.args.name.now c.args.net.now c.in_ok-id.id _ (Ok c.in_ok-plan.plan) c.put_plan.result
    (found_inside (g.C.Cells.state c.args.cells.now) (g.C.Cells.state c.read_named.new.cells) (g.C.Cells.state c.contents.follows.lender-at-none) c.args.name.now c.in_ok-id.id _ c.in_ok-id.ensures.found c.in_ok-id.ensures.reads c.in_ok-contents.ensures.found (rw c.in_ok-contents.was at c.contents.follows.holds-at-none))
    c.in_ok-plan.ensures c.put_plan.ensures.put)

pub returns-in_err-id : goal.returns-in_err-id
returns-in_err-id g c =
    missing_or (g.C.Cells.state c.args.cells.now) (g.C.Cells.state c.read_named.new.cells) (DropNet c.args.name.now c.args.net.now) c.args.name.now c.from_residual.result c.in_err-id.field-0.0 c.from_residual.ensures.1 c.in_err-id.ensures.found c.in_err-id.ensures.reads
    (λ reply read missing. drop_net_missing (g.C.Cells.state c.args.cells.now) (g.C.Cells.state c.read_named.new.cells) c.args.name.now reply read missing c.args.net.now)

pub returns-in_err-plan : goal.returns-in_err-plan
returns-in_err-plan g c =
    let found = found_inside (g.C.Cells.state c.args.cells.now) (g.C.Cells.state c.read_named.new.cells) (g.C.Cells.state c.contents.follows.lender-at-none) c.args.name.now c.in_ok-id.id _ c.in_ok-id.ensures.found c.in_ok-id.ensures.reads c.in_ok-contents.ensures.found (rw c.in_ok-contents.was at c.contents.follows.holds-at-none) in
    plan_refused (g.C.Cells.state c.args.cells.now) (g.C.Cells.state c.contents.follows.lender-at-none) (DropNet c.args.name.now c.args.net.now) (option_copied c.in_ok-contents.field-0) _ (fewer_nets c.args.net.now (option_copied c.in_ok-contents.field-0)) c.from_residual-in_err-plan.result c.in_err-plan.field-0.0 c.from_residual-in_err-plan.ensures.1 c.in_err-plan.ensures (read_some (g.C.Cells.state c.args.cells.now) (g.C.Cells.state c.contents.follows.lender-at-none) _ found.read)
    (λ reply planned. drop_net_done {E = OpError} (g.C.Cells.state c.args.cells.now) (g.C.Cells.state c.contents.follows.lender-at-none) (g.C.Cells.state c.contents.follows.lender-at-none) c.args.name.now c.args.net.now c.in_ok-id.id _ (Err reply) (Ok reply) found planned (refl, refl))
