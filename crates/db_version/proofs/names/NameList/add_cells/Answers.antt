use Rattle.std.proofs.Common.{ap, rules}
use Rattle.netlist_schema.specs.Types.{CellBody}
use Rattle.db_version.proofs.Places.{got_item}
use Rattle.db_version.proofs.Setting.{more_name}
use Rattle.db_version.proofs.names.NameList.add_cells.Goals as goal

pub loop-cell-preserved : goal.loop-cell-preserved
loop-cell-preserved c =
    more_name c.args.self.now c.args.cells.now c.loop-cell.cell-index c.cell-item.result c.deref.result.now.name.id c.loop-cell.self c.add.new.self c.requires (got_item c.args.cells.now c.loop-cell.cell-index c.cell-item.result (search rules) c.cell-item.is)
    (ap (λ (b : CellBody). b.name.id) c.deref.ensures) c.loop-cell.invariant c.in_ok-add.ensures.ok
