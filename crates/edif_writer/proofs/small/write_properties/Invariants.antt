use Rattle.std.proofs.Common.{ℕ, map, take}
use Rattle.edif_spec.specs.Canonical.{property_tree}
use Rattle.edif_writer.specs.Lines.{spaced}
use Rattle.netdb_outside.specs.Buffered.{Writes}
use Rattle.edif_writer.proofs.small.write_properties.Given as goal

abbrev pub invariant-loop-property : goal.invariant-loop-property
invariant-loop-property g l = (level : ℕ) → Writes g.K.Sink.written g.K.Sink.faults l.fn.out l.fn.page l.out l.page (spaced level (map property_tree (take l.property-index l.properties)))
