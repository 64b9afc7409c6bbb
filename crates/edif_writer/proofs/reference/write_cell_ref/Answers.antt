use Rattle.edif_spec.specs.Design.{cell_id, lib_id}
use Rattle.edif_writer.proofs.ContentsTexts.{cell_ref_text}
use Rattle.netdb_outside.proofs.BufferedLemmas.{writes_then, writes_same}
use Rattle.edif_writer.proofs.reference.write_cell_ref.Goals as goal

pub returns : goal.returns
returns g c level =
    let libs = (g.S.Shown.design c.args.design.now).libs in
    writes_same (cell_ref_text level (cell_id libs c.args.id) (lib_id libs c.args.id.lib.0))
    (writes_then c.put.ensures (writes_then c.write_cell_id.ensures (writes_then c.put-2.ensures (writes_then c.write_lib_id.ensures c.put-3.ensures))))
