use Rattle.std.proofs.Common.{suc}
use Rattle.edif_writer.proofs.ListTexts.{property_text}
use Rattle.netdb_outside.proofs.BufferedLemmas.{writes_then, writes_same}
use Rattle.edif_writer.proofs.small.write_property.Goals as goal

pub returns : goal.returns
returns g c level = writes_same (property_text level c.args.property.now)
    (writes_then c.put.ensures (writes_then (c.write_name.ensures (suc level)) (writes_then c.put-2.ensures
    (writes_then (c.write_value.ensures (suc level)) (writes_then c.write_text_form.ensures c.put-3.ensures)))))
