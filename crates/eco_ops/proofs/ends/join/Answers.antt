use Rattle.std.proofs.Common.{refl}
use Rattle.std.specs.Option.{option_copied}
use Rattle.std.specs.Prelude.{Ok, Err}
use Rattle.edit_spec.specs.declared.ops.Op.TheVariants.{Join}
use Rattle.eco_reads.specs.declared.op_error.OpError.{OpError}
use Rattle.eco_reads.proofs.Outcomes.{done_or, missing_or}
use Rattle.eco_plans.proofs.Refusing.{plan_refused}
use Rattle.eco_reads.proofs.Reading.{read_some}
use Rattle.eco_ops.specs.Ends.{end_ports_at}
use Rattle.eco_ops.proofs.EndOps.{end_read, join_can, join_done, join_missing, joined}
use Rattle.eco_ops.proofs.ends.join.Goals as goal

pub put_plan-requires : goal.put_plan-requires
put_plan-requires g c =
    join_can (g.C.Cells.state c.args.cells.now) (g.C.Cells.state c.contents.follows.lender-at-none) c.args.name.now c.args.net.now c.args.end.now c.in_ok-id.id _ _ (Ok c.in_ok-plan.plan) c.in_ok-id.ensures.valid
    (end_read (g.C.Cells.state c.args.cells.now) (g.C.Cells.state c.read_named.new.cells) (g.C.Cells.state c.read_port.new.cells) (g.C.Cells.state c.contents.follows.lender-at-none) c.args.name.now c.args.end.now.inst c.in_ok-id.id _ c.in_ok-id.ensures.found c.in_ok-id.ensures.reads c.in_ok-port.ensures.reads c.in_ok-contents.ensures.found (rw c.in_ok-contents.was at c.contents.follows.holds-at-none))
    (c.in_ok-plan.ensures _ c.in_ok-port.ensures.found)

pub returns : goal.returns
returns g c =
    done_or (g.C.Cells.state c.args.cells.now) (g.C.Cells.state c.put_plan.new.cells) (Join c.args.name.now c.args.net.now c.args.end.now) c.put_plan.result c.put_plan.ensures.err
    (join_done (g.C.Cells.state c.args.cells.now) (g.C.Cells.state c.contents.follows.lender-at-none) (g.C.Cells.state c.put_plan.new.cells) c.args.name.now c.args.net.now c.args.end.now c.in_ok-id.id _ _ (Ok c.in_ok-plan.plan) c.put_plan.result
    (end_read (g.C.Cells.state c.args.cells.now) (g.C.Cells.state c.read_named.new.cells) (g.C.Cells.state c.read_port.new.cells) (g.C.Cells.state c.contents.follows.lender-at-none) c.args.name.now c.args.end.now.inst c.in_ok-id.id _ c.in_ok-id.ensures.found c.in_ok-id.ensures.reads c.in_ok-port.ensures.reads c.in_ok-contents.ensures.found (rw c.in_ok-contents.was at c.contents.follows.holds-at-none))
    (c.in_ok-plan.ensures _ c.in_ok-port.ensures.found) c.put_plan.ensures.put)

pub returns-in_err-id : goal.returns-in_err-id
returns-in_err-id g c =
    missing_or (g.C.Cells.state c.args.cells.now) (g.C.Cells.state c.read_named.new.cells) (Join c.args.name.now c.args.net.now c.args.end.now) c.args.name.now c.from_residual.result c.in_err-id.field-0.0 c.from_residual.ensures.1 c.in_err-id.ensures.found c.in_err-id.ensures.reads
    (λ reply read missing. join_missing (g.C.Cells.state c.args.cells.now) (g.C.Cells.state c.read_named.new.cells) c.args.name.now c.args.net.now c.args.end.now reply read missing)

pub returns-in_err-plan : goal.returns-in_err-plan
returns-in_err-plan g c =
    let found = end_read (g.C.Cells.state c.args.cells.now) (g.C.Cells.state c.read_named.new.cells) (g.C.Cells.state c.read_port.new.cells) (g.C.Cells.state c.contents.follows.lender-at-none) c.args.name.now c.args.end.now.inst c.in_ok-id.id _ c.in_ok-id.ensures.found c.in_ok-id.ensures.reads c.in_ok-port.ensures.reads c.in_ok-contents.ensures.found (rw c.in_ok-contents.was at c.contents.follows.holds-at-none) in
    plan_refused (g.C.Cells.state c.args.cells.now) (g.C.Cells.state c.contents.follows.lender-at-none) (Join c.args.name.now c.args.net.now c.args.end.now) (option_copied c.in_ok-contents.field-0) _ (joined c.args.net.now c.args.end.now (option_copied c.in_ok-contents.field-0) (end_ports_at (g.C.Cells.state c.read_named.new.cells).design c.in_ok-id.id c.args.end.now.inst)) c.from_residual-in_err-plan.result c.in_err-plan.field-0.0 c.from_residual-in_err-plan.ensures.1 (c.in_err-plan.ensures _ c.in_ok-port.ensures.found) (read_some (g.C.Cells.state c.args.cells.now) (g.C.Cells.state c.contents.follows.lender-at-none) _ found.read)
    (λ reply planned. join_done {E = OpError} (g.C.Cells.state c.args.cells.now) (g.C.Cells.state c.contents.follows.lender-at-none) (g.C.Cells.state c.contents.follows.lender-at-none) c.args.name.now c.args.net.now c.args.end.now c.in_ok-id.id _ _ (Err reply) (Ok reply) found planned (refl, refl))
