use Rattle.std.proofs.Common.{suc, map, ap}
use Rattle.edif_spec.specs.Canonical.{property_tree}
use Rattle.edif_writer.specs.Lines.{spaced}
use Rattle.edif_writer.proofs.ListTexts.{port_text}
use Rattle.netdb_outside.proofs.BufferedLemmas.{writes_then, writes_same}
use Rattle.edif_writer.proofs.cell.write_port.Goals as goal

pub returns : goal.returns
returns g c level = writes_same (port_text level c.args.port.now)
    (writes_then c.put.ensures (writes_then (c.write_port_name.ensures (suc level)) (writes_then (writes_same (c.direction_text.ensures level) c.put-2.ensures)
    (writes_then c.write_text_form.ensures (writes_then (writes_same (ap (λ v. spaced level (map property_tree v)) c.as_slice.ensures) (c.write_properties.ensures level)) c.put-3.ensures)))))
