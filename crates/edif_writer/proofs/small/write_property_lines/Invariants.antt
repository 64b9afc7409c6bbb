use Rattle.std.proofs.Common.{map, take}
use Rattle.edif_spec.specs.Canonical.{property_tree}
use Rattle.edif_writer.specs.Lines.{lined}
use Rattle.netdb_outside.specs.Buffered.{Writes}
use Rattle.edif_writer.proofs.small.write_property_lines.Given as goal

abbrev pub invariant-loop-property : goal.invariant-loop-property
invariant-loop-property g l = Writes g.K.Sink.written g.K.Sink.faults l.fn.out l.fn.page l.out l.page (lined l.level (map property_tree (take l.property-index l.property-items)))
