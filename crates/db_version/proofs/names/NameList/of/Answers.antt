use Rattle.std.proofs.Common.{refl, rules}
use Rattle.db_version.proofs.Places.{named_next, got_item}
use Rattle.db_version.proofs.names.NameList.of.Goals as goal

pub loop-cell-preserved : goal.loop-cell-preserved
loop-cell-preserved c =
    named_next c.args.cells.now c.loop-cell.cell-index c.cell-item.result c.cell-item.result.name.id c.loop-cell.made c.add.new.self c.requires (got_item c.args.cells.now c.loop-cell.cell-index c.cell-item.result (search rules) c.cell-item.is) refl c.loop-cell.invariant c.in_ok-add.ensures.ok
