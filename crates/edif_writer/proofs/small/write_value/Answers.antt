use Rattle.edif_writer.proofs.SmallTexts.{integer_text, number_text, text_text}
use Rattle.netdb_outside.proofs.BufferedLemmas.{writes_then, writes_same}
use Rattle.edif_writer.proofs.small.write_value.Goals as goal
use Rattle.std.proofs.Common.{suc}

pub returns-in-Integer : goal.returns-in-Integer
returns-in-Integer g c level = writes_same (integer_text level c.args.value.now c.in-Integer.value c.in-Integer.is)
    (writes_then c.put-in-Integer.ensures (writes_then c.put_integer.ensures c.put-in-Integer-2.ensures))

pub returns-in-Number : goal.returns-in-Number
returns-in-Number g c level = writes_same (number_text level c.args.value.now c.in-Number.number c.in-Number.is)
    (writes_then c.put-in-Number.ensures (writes_then (c.write_number.ensures (suc level)) c.put-in-Number-2.ensures))

pub returns-in-Text : goal.returns-in-Text
returns-in-Text g c level = writes_same (text_text level c.args.value.now c.in-Text.text c.in-Text.is)
    (writes_then c.put-in-Text.ensures (writes_then c.put_string.ensures c.put-in-Text-2.ensures))
