use Rattle.std.proofs.Common.{suc, pos, ap}
use Rattle.std.specs.Fmt.{signed_decimal}
use Rattle.edif_writer.proofs.SmallTexts.{scalar_text, array_text}
use Rattle.netdb_outside.proofs.BufferedLemmas.{writes_then, writes_same}
use Rattle.edif_writer.proofs.cell.write_port_name.Goals as goal

pub returns-in-None : goal.returns-in-None
returns-in-None g c level = writes_same (scalar_text level c.args.name.now c.args.array.now c.in-None.is) (c.write_name.ensures level)

pub returns-in-Some : goal.returns-in-Some
returns-in-Some g c level = writes_same (array_text level c.args.name.now c.args.array.now c.in-Some.width c.in-Some.is)
    (writes_then c.put.ensures (writes_then (c.write_name-in-Some.ensures (suc level)) (writes_then c.put-in-Some.ensures
    (writes_then (writes_same (ap (λ n. signed_decimal (pos n)) c.get.ensures.value) c.put_number.ensures) c.put-in-Some-2.ensures))))
