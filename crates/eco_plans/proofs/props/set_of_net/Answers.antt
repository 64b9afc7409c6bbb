use Rattle.std.proofs.Common.{refl}
use Rattle.eco_plans.specs.Props.{nets_set}
use Rattle.std.specs.Option.{option_copied}
use Rattle.std.specs.Prelude.{Ok, Err}
use Rattle.edit_spec.specs.declared.ops.Op.TheVariants.{SetProp}
use Rattle.edit_spec.specs.declared.ops.Target.TheVariants.{Net as OfNet}
use Rattle.eco_reads.specs.declared.op_error.OpError.{OpError}
use Rattle.eco_reads.proofs.Outcomes.{done_or, missing_or}
use Rattle.eco_plans.proofs.Refusing.{plan_refused}
use Rattle.eco_reads.proofs.Reading.{found_inside, read_some}
use Rattle.eco_plans.proofs.Missing.{of_net_missing}
use Rattle.eco_plans.proofs.PropOps.{of_net_can, of_net_done}
use Rattle.eco_plans.proofs.props.set_of_net.Goals as goal

pub put_plan-requires : goal.put_plan-requires
put_plan-requires g c =
    of_net_can (g.C.Cells.state c.args.cells.now) (g.C.Cells.state c.contents.follows.lender-at-none) c.args.name.now c.args.net.now c.args.property.now c.in_ok-id.id _ (Ok c.in_ok-plan.plan) c.requires c.in_ok-id.ensures.valid
    (found_inside (g.C.Cells.state c.args.cells.now) (g.C.Cells.state c.read_named.new.cells) (g.C.Cells.state c.contents.follows.lender-at-none) c.args.name.now c.in_ok-id.id _ c.in_ok-id.ensures.found c.in_ok-id.ensures.reads c.in_ok-contents.ensures.found (rw c.in_ok-contents.was at c.contents.follows.holds-at-none))
    c.in_ok-plan.ensures

pub returns : goal.returns
returns g c =
    done_or (g.C.Cells.state c.args.cells.now) (g.C.Cells.state c.put_plan.new.cells) (SetProp c.args.name.now (OfNet c.args.net.now) c.args.property.now) c.put_plan.result c.put_plan.ensures.err
    (of_net_done (g.C.Cells.state c.args.cells.now) (g.C.Cells.state c.contents.follows.lender-at-none) (g.C.Cells.state c.put_plan.new.cells) c.args.name.now c.args.net.now c.args.property.now c.in_ok-id.id _ (Ok c.in_ok-plan.plan) c.put_plan.result
    (found_inside (g.C.Cells.state c.args.cells.now) (g.C.Cells.state c.read_named.new.cells) (g.C.Cells.state c.contents.follows.lender-at-none) c.args.name.now c.in_ok-id.id _ c.in_ok-id.ensures.found c.in_ok-id.ensures.reads c.in_ok-contents.ensures.found (rw c.in_ok-contents.was at c.contents.follows.holds-at-none))
    c.in_ok-plan.ensures c.put_plan.ensures.put)

pub returns-in_err-id : goal.returns-in_err-id
returns-in_err-id g c =
    missing_or (g.C.Cells.state c.args.cells.now) (g.C.Cells.state c.read_named.new.cells) (SetProp c.args.name.now (OfNet c.args.net.now) c.args.property.now) c.args.name.now c.from_residual.result c.in_err-id.field-0.0 c.from_residual.ensures.1 c.in_err-id.ensures.found c.in_err-id.ensures.reads
    (λ reply read missing. of_net_missing (g.C.Cells.state c.args.cells.now) (g.C.Cells.state c.read_named.new.cells) c.args.name.now reply read missing c.args.net.now c.args.property.now)

pub returns-in_err-plan : goal.returns-in_err-plan
returns-in_err-plan g c =
    let found = found_inside (g.C.Cells.state c.args.cells.now) (g.C.Cells.state c.read_named.new.cells) (g.C.Cells.state c.contents.follows.lender-at-none) c.args.name.now c.in_ok-id.id _ c.in_ok-id.ensures.found c.in_ok-id.ensures.reads c.in_ok-contents.ensures.found (rw c.in_ok-contents.was at c.contents.follows.holds-at-none) in
    plan_refused (g.C.Cells.state c.args.cells.now) (g.C.Cells.state c.contents.follows.lender-at-none) (SetProp c.args.name.now (OfNet c.args.net.now) c.args.property.now) (option_copied c.in_ok-contents.field-0) _ (nets_set c.args.net.now c.args.property.now (option_copied c.in_ok-contents.field-0)) c.from_residual-in_err-plan.result c.in_err-plan.field-0.0 c.from_residual-in_err-plan.ensures.1 c.in_err-plan.ensures (read_some (g.C.Cells.state c.args.cells.now) (g.C.Cells.state c.contents.follows.lender-at-none) _ found.read)
    (λ reply planned. of_net_done {E = OpError} (g.C.Cells.state c.args.cells.now) (g.C.Cells.state c.contents.follows.lender-at-none) (g.C.Cells.state c.contents.follows.lender-at-none) c.args.name.now c.args.net.now c.args.property.now c.in_ok-id.id _ (Err reply) (Ok reply) found planned (refl, refl))
