use Rattle.edif_writer.proofs.ListTexts.{view_text}
use Rattle.netdb_outside.proofs.BufferedLemmas.{writes_then, writes_same}
use Rattle.edif_writer.proofs.cell.write_view.Goals as goal

pub returns : goal.returns
returns g c = writes_same (view_text (g.S.Shown.design c.args.design.now).libs c.args.body.now)
    (writes_then c.put.ensures (writes_then (c.write_name.ensures 5) (writes_then c.put-2.ensures (writes_then c.write_interface.ensures (writes_then c.write_property_lines.ensures (writes_then c.write_contents_line.ensures c.put-3.ensures))))))
