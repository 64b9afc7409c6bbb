use Rattle.eco_ops.proofs.EndOps.{no_port_read, port_read}
use Rattle.eco_ops.proofs.ends.read_port.Goals as goal

pub returns-in_default-clause-reads : goal.returns-in_default-clause-reads
returns-in_default-clause-reads g c =
    no_port_read (g.C.Cells.state c.args.cells.now) (g.C.Cells.state c.contents.follows.lender-at-none) c.args.id c.args.end.now.inst _ c.in_ok-contents.ensures.found (rw c.in_default.is at c.cell_of_end.ensures) (rw c.in_ok-contents.was at c.contents.follows.holds-at-none)

pub returns-clause-reads : goal.returns-clause-reads
returns-clause-reads g c =
    port_read (g.C.Cells.state c.args.cells.now) (g.C.Cells.state c.contents.follows.lender-at-none) (g.C.Cells.state c.face.follows.lender-at-none) c.args.id c.in-Some.of c.args.end.now.inst _ c.in_ok-contents.ensures.found (rw c.in-Some.is at c.cell_of_end.ensures) (rw c.in_ok-contents.was at c.contents.follows.holds-at-none) (rw c.in_ok-face.was at c.face.follows.holds-at-none)
