use Rattle.uniquify_blocks.proofs.Blocks.{for_block, for_leaf}
use Rattle.uniquify_blocks.proofs.read.read_block.Goals as goal

pub returns-then-block-clause-reads : goal.returns-then-block-clause-reads
returns-then-block-clause-reads g c =
    for_block (g.C.Cells.state c.args.cells.now) (g.C.Cells.state c.read_cell.new.cells) (g.C.Cells.state c.read_directory.new.cells) c.args.id c.in_ok-block.block
    c.in_ok-block.ensures.reads c.in_ok-block.ensures.block c.if-block.true c.in_ok-read_directory.ensures

pub returns-clause-reads : goal.returns-clause-reads
returns-clause-reads g c =
    for_leaf (g.C.Cells.state c.args.cells.now) (g.C.Cells.state c.read_cell.new.cells) c.args.id c.in_ok-block.block c.in_ok-block.ensures.reads c.in_ok-block.ensures.block c.if-block.false
