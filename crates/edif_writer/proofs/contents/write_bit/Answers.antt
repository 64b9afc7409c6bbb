use Rattle.edif_writer.proofs.ContentsTexts.{member_text}
use Rattle.netdb_outside.proofs.BufferedLemmas.{writes_then, writes_same}
use Rattle.edif_writer.proofs.contents.write_bit.Goals as goal

pub returns-in-Some : goal.returns-in-Some
returns-in-Some g c level = writes_same (member_text level c.args.port.now.name.id c.args.port.now.array _ c.args.bit c.in-Some.is)
    (writes_then c.put.ensures (writes_then c.put_ident-in-Some.ensures (writes_then c.put-in-Some.ensures (writes_then c.put_number.ensures c.put-in-Some-2.ensures))))
