use Rattle.uniquify_copies.proofs.SomeReads.{some_then}
use Rattle.eco_reads.proofs.Reading.{read_some}
use Rattle.uniquify_blocks.proofs.Blocks.{is_got}
use Rattle.uniquify_blocks.proofs.Instances.{kids_all, kids_more}
use Rattle.uniquify_blocks.proofs.kids.blocks_of.Goals as goal

pub loop-place-preserved : goal.loop-place-preserved
loop-place-preserved g c = record {
  found = kids_more (g.C.Cells.state c.args.cells.now).design (g.C.Cells.state c.loop-place.cells).design c.loop-place.invariant.some.design c.args.steps.now c.loop-place.place c.step_at-step.result
      c.loop-place.made.items c.add_block.new.blocks.items c.in-Ok.block c.loop-place-test.true (is_got c.args.steps.now c.loop-place.place c.step_at-step.result c.step_at-step.ensures)
      c.loop-place.invariant.found c.in-Ok.ensures.block c.in_ok-add_block.ensures;
  some = some_then (g.C.Cells.state c.args.cells.now) (g.C.Cells.state c.loop-place.cells) (g.C.Cells.state c.read_cell.new.cells) c.loop-place.invariant.some (read_some (g.C.Cells.state c.loop-place.cells) (g.C.Cells.state c.read_cell.new.cells) _ c.in-Ok.ensures.reads);
}

pub returns-clause-found : goal.returns-clause-found
returns-clause-found g c = kids_all (g.C.Cells.state c.args.cells.now).design c.args.steps.now c.loop-place.place c.loop-place.made.items c.loop-place-test.false c.loop-place.invariant.found
