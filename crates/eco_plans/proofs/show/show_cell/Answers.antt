use Rattle.eco_plans.proofs.Missing.{show_cell_missing}
use Rattle.eco_plans.proofs.Showing.{show_cell_done}
use Rattle.edit_spec.specs.declared.ops.Op.TheVariants.{ShowCell}
use Rattle.eco_reads.proofs.Outcomes.{missing_or}
use Rattle.eco_plans.proofs.show.show_cell.Goals as goal

pub returns : goal.returns
returns g c =
    show_cell_done (g.C.Cells.state c.args.cells.now) (g.C.Cells.state c.read_named.new.cells) (g.C.Cells.state c.face.follows.lender-at-none) (g.C.Cells.state c.contents.follows.lender-at-none) c.args.name.now c.in_ok-id.id _ _ _ c.shown.result
    c.in_ok-id.ensures.found
    c.in_ok-id.ensures.reads
    (rw c.in_ok-face.was at c.face.follows.holds-at-none)
    c.in_ok-face.ensures.found
    c.port_count-ports.ensures
    (rw c.in_ok-contents.was at c.contents.follows.holds-at-none)
    c.in_ok-contents.ensures.found
    c.shown.ensures

pub returns-in_err-id : goal.returns-in_err-id
returns-in_err-id g c =
    missing_or (g.C.Cells.state c.args.cells.now) (g.C.Cells.state c.read_named.new.cells) (ShowCell c.args.name.now) c.args.name.now c.from_residual.result c.in_err-id.field-0.0 c.from_residual.ensures.1 c.in_err-id.ensures.found c.in_err-id.ensures.reads
    (λ reply read missing. show_cell_missing (g.C.Cells.state c.args.cells.now) (g.C.Cells.state c.read_named.new.cells) c.args.name.now reply read missing)
