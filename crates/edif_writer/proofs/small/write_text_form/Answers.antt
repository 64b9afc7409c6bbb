use Rattle.edif_writer.proofs.SmallTexts.{enclosed_text}
use Rattle.netdb_outside.proofs.BufferedLemmas.{writes_then, writes_same}
use Rattle.edif_writer.proofs.small.write_text_form.Goals as goal

pub returns-in-Some : goal.returns-in-Some
returns-in-Some g c = writes_same (enclosed_text c.args.opening.now c.args.text.now c.in-Some.text c.in-Some.is)
    (writes_then c.put.ensures (writes_then c.put_string.ensures c.put-in-Some.ensures))
