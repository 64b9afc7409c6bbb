use Rattle.eco_reads.proofs.Reading.{back_is, mark_within}
use Rattle.uniquify_blocks.proofs.paths.plan_path.Goals as goal

pub back-requires : goal.back-requires
back-requires g c = mark_within (g.C.Cells.state c.args.cells.now) (g.C.Cells.state c.try_plan.new.cells) _ c.mark-mark.ensures c.in_ok-planned.ensures.some

pub returns-clause-reads : goal.returns-clause-reads
returns-clause-reads g c = back_is (g.C.Cells.state c.args.cells.now) (g.C.Cells.state c.try_plan.new.cells) _ _ c.mark-mark.ensures c.in_ok-planned.ensures.some c.back.ensures
