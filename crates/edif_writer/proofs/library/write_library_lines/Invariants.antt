use Rattle.std.proofs.Common.{map, take}
use Rattle.edif_spec.specs.Arranged.{arranged}
use Rattle.edif_spec.specs.Canonical.{library_tree}
use Rattle.edif_writer.specs.Lines.{lined}
use Rattle.netdb_outside.specs.Buffered.{Writes}
use Rattle.edif_writer.proofs.library.write_library_lines.Given as goal

abbrev pub invariant-loop-lib : goal.invariant-loop-lib
invariant-loop-lib g l = Writes g.K.Sink.written g.K.Sink.faults l.fn.out l.fn.page l.out l.page
    (lined 1 (map (library_tree (arranged (g.S.Shown.design l.design)).libs) (take l.lib (arranged (g.S.Shown.design l.design)).libs)))
