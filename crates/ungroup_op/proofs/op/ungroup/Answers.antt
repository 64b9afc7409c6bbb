use Rattle.eco_reads.proofs.Reading.{back_is, mark_within}
use Rattle.ungroup_op.proofs.op.ungroup.Goals as goal

pub back-requires : goal.back-requires
back-requires g c = mark_within (g.C.Cells.state c.args.cells.now) (g.C.Cells.state c.try_ungroup.new.cells) _ c.mark-mark.ensures (rw c.in-Err-NoMemory.field-0-is at c.in-Err-NoMemory.ensures)

pub returns-in-Err-NoMemory : goal.returns-in-Err-NoMemory
returns-in-Err-NoMemory g c = back_is (g.C.Cells.state c.args.cells.now) (g.C.Cells.state c.try_ungroup.new.cells) _ _ c.mark-mark.ensures (rw c.in-Err-NoMemory.field-0-is at c.in-Err-NoMemory.ensures) c.back.ensures
