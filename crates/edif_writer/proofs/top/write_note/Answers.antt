use Rattle.std.proofs.Common.{suc}
use Rattle.edif_writer.proofs.ContentsTexts.{note_text}
use Rattle.netdb_outside.proofs.BufferedLemmas.{writes_then, writes_same}
use Rattle.edif_writer.proofs.top.write_note.Goals as goal

pub returns : goal.returns
returns g c level = writes_same (note_text level c.args.note.now)
    (writes_then c.put.ensures (writes_then (c.write_steps.ensures (suc level)) (writes_then c.put-2.ensures (writes_then (c.write_property.ensures (suc level)) c.put-3.ensures))))
