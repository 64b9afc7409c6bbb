use Rattle.std.proofs.Common.{◌++◌}
use Rattle.edif_spec.specs.Canonical.{layout, new_line, note_tree}
use Rattle.edif_writer.proofs.FormTexts.{one_more}
use Rattle.netdb_outside.proofs.BufferedLemmas.{writes_then, writes_same}
use Rattle.edif_writer.proofs.top.write_note_lines.Goals as goal

pub loop-note-preserved : goal.loop-note-preserved
loop-note-preserved g c =
    writes_same (one_more (λ t. new_line 2 ++ layout 3 t) note_tree c.as_slice-note-items.result.now c.loop-note.note-index c.note-item.result c.loop-note-test.true c.note-item.is)
    (writes_then c.loop-note.invariant (writes_then c.put_line.ensures (c.write_note.ensures 3)))
