use Rattle.eco_plans.proofs.PropOps.{own_can, own_done, own_missing}
use Rattle.edit_spec.specs.declared.ops.Op.TheVariants.{SetProp}
use Rattle.edit_spec.specs.declared.ops.Target.TheVariants.{Whole}
use Rattle.eco_reads.proofs.Outcomes.{missing_or}
use Rattle.eco_plans.proofs.props.set_own.Goals as goal

pub write_one-requires : goal.write_one-requires
write_one-requires g c =
    own_can (g.C.Cells.state c.args.cells.now) (g.C.Cells.state c.read_named.new.cells) (g.C.Cells.state c.face.follows.lender-at-none) c.args.name.now c.args.property.now c.in_ok-id.id c.in_ok-face.field-0 c.in_ok-made.made c.requires c.in_ok-id.ensures.valid
    c.in_ok-id.ensures.found c.in_ok-id.ensures.reads (rw c.in_ok-face.was at c.face.follows.holds-at-none) c.in_ok-face.ensures.found c.in_ok-made.ensures

pub returns : goal.returns
returns g c =
    own_done (g.C.Cells.state c.args.cells.now) (g.C.Cells.state c.read_named.new.cells) (g.C.Cells.state c.face.follows.lender-at-none) (g.C.Cells.state c.write_one.new.cells) c.args.name.now c.args.property.now c.in_ok-id.id c.in_ok-face.field-0 c.in_ok-made.made
    c.in_ok-id.ensures.found c.in_ok-id.ensures.reads (rw c.in_ok-face.was at c.face.follows.holds-at-none) c.in_ok-face.ensures.found c.in_ok-made.ensures c.in_ok-write_one.ensures.ok

pub returns-in_err-id : goal.returns-in_err-id
returns-in_err-id g c =
    missing_or (g.C.Cells.state c.args.cells.now) (g.C.Cells.state c.read_named.new.cells) (SetProp c.args.name.now Whole c.args.property.now) c.args.name.now c.from_residual.result c.in_err-id.field-0.0 c.from_residual.ensures.1 c.in_err-id.ensures.found c.in_err-id.ensures.reads
    (λ reply read missing. own_missing (g.C.Cells.state c.args.cells.now) (g.C.Cells.state c.read_named.new.cells) c.args.name.now c.args.property.now reply read missing)
