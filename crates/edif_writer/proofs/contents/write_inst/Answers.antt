use Rattle.std.proofs.Common.{suc, map, ap}
use Rattle.edif_spec.specs.Canonical.{property_tree}
use Rattle.edif_writer.specs.Lines.{spaced}
use Rattle.edif_writer.proofs.ContentsTexts.{inst_text}
use Rattle.netdb_outside.proofs.BufferedLemmas.{writes_then, writes_same}
use Rattle.edif_writer.proofs.contents.write_inst.Goals as goal

pub returns : goal.returns
returns g c level = writes_same (inst_text level (g.S.Shown.design c.args.design.now).libs c.args.inst.now)
    (writes_then c.put.ensures (writes_then (c.write_name.ensures (suc level)) (writes_then c.put-2.ensures (writes_then c.write_view_id.ensures (writes_then c.put-3.ensures
    (writes_then (c.write_cell_ref.ensures (suc (suc level))) (writes_then c.put-4.ensures (writes_then c.write_text_form.ensures (writes_then (writes_same (ap (λ v. spaced level (map property_tree v)) c.as_slice.ensures) (c.write_properties.ensures level)) c.put-5.ensures)))))))))
