use Rattle.eco_reads.proofs.Reading.{back_is, mark_within}
use Rattle.uniquify_blocks.proofs.paths.unique_path.Goals as goal

pub back-requires : goal.back-requires
back-requires g c = mark_within (g.C.Cells.state c.args.cells.now) (g.C.Cells.state c.try_unique_path.new.cells) _ c.mark-mark.ensures c.in-Err.ensures

pub returns-in-Err : goal.returns-in-Err
returns-in-Err g c = back_is (g.C.Cells.state c.args.cells.now) (g.C.Cells.state c.try_unique_path.new.cells) _ _ c.mark-mark.ensures c.in-Err.ensures c.back.ensures
