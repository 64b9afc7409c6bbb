use Rattle.std.specs.List.{flat_map}
use Rattle.netdb_outside.specs.Buffered.{Writes}
use Rattle.used_spec.specs.Lines.{cell_lines}
use Rattle.where_used.proofs.Adding.{cells_upto}
use Rattle.used_lines.proofs.lines.put_cells.Given as goal

-- the first libraries are written
abbrev pub invariant-loop-lib : goal.invariant-loop-lib
invariant-loop-lib g l = Writes g.K.Sink.written g.K.Sink.faults l.fn.out l.fn.page l.out l.page (flat_map (cell_lines (g.S.Shown.design l.design)) (cells_upto (g.S.Shown.design l.design) l.lib))
