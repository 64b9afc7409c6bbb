use Rattle.std.specs.List.{flat_map}
use Rattle.netdb_outside.specs.Buffered.{Writes}
use Rattle.used_spec.specs.Lines.{cell_lines}
use Rattle.used_spec.specs.Uses.{ids_of}
use Rattle.used_lines.proofs.lines.put_library.Given as goal

-- the first cells are written
abbrev pub invariant-loop-slot : goal.invariant-loop-slot
invariant-loop-slot g l = Writes g.K.Sink.written g.K.Sink.faults l.fn.out l.fn.page l.out l.page (flat_map (cell_lines (g.S.Shown.design l.design)) (ids_of l.lib l.slot))
