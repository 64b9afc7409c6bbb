use Rattle.std.proofs.Common.{map, take}
use Rattle.edif_spec.specs.Arranged.{arranged, new_cells, orders_from}
use Rattle.edif_spec.specs.Canonical.{cell_tree}
use Rattle.netlist_schema.specs.Design.{cells_in}
use Rattle.edif_writer.specs.Lines.{lined}
use Rattle.netdb_outside.specs.Buffered.{Writes}
use Rattle.edif_writer.proofs.library.write_cell_lines.Given as goal

abbrev pub invariant-loop-slot : goal.invariant-loop-slot
invariant-loop-slot g l = Writes g.K.Sink.written g.K.Sink.faults l.fn.out l.fn.page l.out l.page
    (lined 2 (map (cell_tree (arranged (g.S.Shown.design l.design)).libs) (new_cells (orders_from 0 (g.S.Shown.design l.design).libs) (cells_in (g.S.Shown.design l.design) l.lib) (take l.slot-index l.order))))
