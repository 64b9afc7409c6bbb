use Rattle.std.proofs.Common.{ap}
use Rattle.edif_spec.specs.Arranged.{arranged}
use Rattle.edif_spec.specs.Canonical.{layout, name_tree}
use Rattle.edif_writer.proofs.WholeTexts.{design_text}
use Rattle.netdb_outside.proofs.BufferedLemmas.{writes_then, writes_same}
use Rattle.edif_writer.proofs.whole.write_file.Goals as goal

pub returns : goal.returns
returns g c = writes_same (design_text (arranged (g.S.Shown.design c.args.design.now)))
    (writes_then c.put.ensures (writes_then (writes_same (ap (λ n. layout 2 (name_tree n)) c.title.ensures) (c.write_name.ensures 2)) (writes_then c.put-2.ensures
    (writes_then c.write_library_lines.ensures (writes_then c.write_top_line.ensures c.put-3.ensures)))))
