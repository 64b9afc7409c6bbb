use Rattle.edif_writer.proofs.ListTexts.{interface_text}
use Rattle.netdb_outside.proofs.BufferedLemmas.{writes_then, writes_same}
use Rattle.edif_writer.proofs.cell.write_interface.Goals as goal

pub returns : goal.returns
returns g c = writes_same (interface_text c.args.body.now)
    (writes_then c.put.ensures (writes_then c.write_port_lines.ensures (writes_then c.write_property_lines.ensures c.put-2.ensures)))
