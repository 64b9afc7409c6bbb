use Rattle.std.proofs.Common.{sym, ◌∙◌}
use Rattle.edif_writer.proofs.SmallTexts.{plain_text, other_text}
use Rattle.netdb_outside.proofs.BufferedLemmas.{writes_then, writes_same}
use Rattle.edif_writer.proofs.contents.write_array_name.Goals as goal

pub returns-then-eq : goal.returns-then-eq
returns-then-eq g c level = writes_same (plain_text level c.args.id.now c.args.text.now (sym c.eq.ensures ∙ c.if-eq.true)) c.put_name.ensures

pub returns-else-eq : goal.returns-else-eq
returns-else-eq g c level = writes_same (other_text level c.args.id.now c.args.text.now (sym c.eq.ensures ∙ c.if-eq.false))
    (writes_then c.put.ensures (writes_then c.put_name-else-eq.ensures (writes_then c.put-else-eq.ensures (writes_then c.put_bytes.ensures c.put-else-eq-2.ensures))))
