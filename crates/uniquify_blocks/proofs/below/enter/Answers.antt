use Rattle.uniquify_blocks.proofs.Entering.{read_entered}
use Rattle.uniquify_blocks.proofs.below.enter.Goals as goal

pub returns-clause-reads : goal.returns-clause-reads
returns-clause-reads g c = read_entered (g.C.Cells.state c.args.cells.now) (g.C.Cells.state c.read_block.new.cells) (g.C.Cells.state c.look.new.cells) c.args.id c.look.result c.in_ok-_block.ensures.reads c.look.ensures.reads
