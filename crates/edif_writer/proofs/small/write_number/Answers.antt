use Rattle.edif_writer.proofs.SmallTexts.{scaled_text}
use Rattle.netdb_outside.proofs.BufferedLemmas.{writes_then, writes_same}
use Rattle.edif_writer.proofs.small.write_number.Goals as goal

pub returns-in-Scaled : goal.returns-in-Scaled
returns-in-Scaled g c level = writes_same (scaled_text level c.args.number.now c.in-Scaled.mantissa c.in-Scaled.exponent c.in-Scaled.is)
    (writes_then c.put.ensures (writes_then c.put_integer-in-Scaled.ensures (writes_then c.put-in-Scaled.ensures (writes_then c.write_exponent.ensures c.put-in-Scaled-2.ensures))))
