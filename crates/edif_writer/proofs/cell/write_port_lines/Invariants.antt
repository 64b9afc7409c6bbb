use Rattle.std.proofs.Common.{map, take}
use Rattle.edif_spec.specs.Canonical.{port_tree}
use Rattle.edif_writer.specs.Lines.{lined}
use Rattle.netdb_outside.specs.Buffered.{Writes}
use Rattle.edif_writer.proofs.cell.write_port_lines.Given as goal

abbrev pub invariant-loop-port : goal.invariant-loop-port
invariant-loop-port g l = Writes g.K.Sink.written g.K.Sink.faults l.fn.out l.fn.page l.out l.page (lined 5 (map port_tree (take l.port-index l.port-items)))
