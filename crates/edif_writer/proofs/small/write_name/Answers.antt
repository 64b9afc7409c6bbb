use Rattle.edif_writer.proofs.SmallTexts.{rename_text}
use Rattle.netdb_outside.proofs.BufferedLemmas.{writes_then, writes_same}
use Rattle.edif_writer.proofs.small.write_name.Goals as goal

pub returns-in-Some : goal.returns-in-Some
returns-in-Some g c level = writes_same (rename_text level c.args.name.now.id c.args.name.now.shown c.in-Some.shown c.in-Some.is)
    (writes_then c.put.ensures (writes_then c.put_ident-in-Some.ensures (writes_then c.put-in-Some.ensures (writes_then c.put_string.ensures c.put-in-Some-2.ensures))))
