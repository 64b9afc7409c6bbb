use Rattle.std.proofs.Common.{rules, ◌<◌, ◌≤◌, length, refl}
use Rattle.net_classes.specs.Facts.{facts_of}
use Rattle.net_classes.proofs.TableLemmas.{set_past, set_row}
use Rattle.net_classes.proofs.known.set_cell.Goals as goal

pub returns-then-cell-len : goal.returns-then-cell-len
returns-then-cell-len c =
    let within : c.args.cell.lib.0 < length c.args.cells.now.items = search rules in
    set_row (λ row. row.items) facts_of c.args.cells.now.items c.args.cell c.args.nets _ c.index_mut.result.now c.set_in.new.row within
    c.index_mut.ensures.value c.set_in.ensures refl

pub returns-else-cell-len : goal.returns-else-cell-len
returns-else-cell-len c =
    let past : length c.args.cells.now.items ≤ c.args.cell.lib.0 = search rules in
    set_past (λ row. row.items) facts_of c.args.cells.now.items c.args.cell c.args.nets past
