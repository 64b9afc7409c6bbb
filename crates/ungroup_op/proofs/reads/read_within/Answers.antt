use Rattle.ungroup_op.proofs.NoteReads.{both_read}
use Rattle.ungroup_op.proofs.reads.read_within.Goals as goal

pub returns-clause-reads : goal.returns-clause-reads
returns-clause-reads g c =
    both_read c.copy_inside.result (g.C.Cells.state c.args.cells.now) (g.C.Cells.state c.look.new.cells) (g.C.Cells.state c.copy_inside.new.cells) c.args.cell c.in-Some.cell c.in-Some.is c.in_ok-look.ensures c.copy_inside.ensures.reads
