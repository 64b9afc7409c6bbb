use Rattle.edif_writer.proofs.ListTexts.{cell_text}
use Rattle.netdb_outside.proofs.BufferedLemmas.{writes_then, writes_same}
use Rattle.edif_writer.proofs.cell.write_cell.Goals as goal

pub returns : goal.returns
returns g c = writes_same (cell_text (g.S.Shown.design c.args.design.now).libs c.args.body.now)
    (writes_then c.put.ensures (writes_then (c.write_name.ensures 4) (writes_then c.put-2.ensures (writes_then (writes_same c.kind_spelling.ensures c.put-3.ensures) (writes_then c.put-4.ensures
    (writes_then c.write_property_lines.ensures (writes_then c.put-5.ensures (writes_then c.write_view.ensures c.put-6.ensures))))))))
