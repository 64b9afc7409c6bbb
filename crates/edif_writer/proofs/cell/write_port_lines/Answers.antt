use Rattle.std.proofs.Common.{◌++◌}
use Rattle.edif_spec.specs.Canonical.{layout, new_line, port_tree}
use Rattle.edif_writer.proofs.FormTexts.{one_more}
use Rattle.netdb_outside.proofs.BufferedLemmas.{writes_then, writes_same}
use Rattle.edif_writer.proofs.cell.write_port_lines.Goals as goal

pub loop-port-preserved : goal.loop-port-preserved
loop-port-preserved g c =
    writes_same (one_more (λ t. new_line 5 ++ layout 6 t) port_tree c.as_slice-port-items.result.now c.loop-port.port-index c.port-item.result c.loop-port-test.true c.port-item.is)
    (writes_then c.loop-port.invariant (writes_then c.put_line.ensures (c.write_port.ensures 6)))
