use Rattle.std.proofs.Common.{ap, sym, Some}
use Rattle.edif_spec.specs.Canonical.{layout, bits_tree}
use Rattle.netdb_outside.proofs.BufferedLemmas.{writes_same}
use Rattle.edif_writer.proofs.contents.write_bits.Goals as goal

pub returns-in-None : goal.returns-in-None
returns-in-None g c level = writes_same (ap (λ o. layout level (bits_tree o (Some c.args.port.now) c.args.bit)) (sym c.in-None.is)) (c.write_bit.ensures level)

pub returns-in-Some : goal.returns-in-Some
returns-in-Some g c level = writes_same (ap (λ o. layout level (bits_tree o (Some c.args.port.now) c.args.bit)) (sym c.in-Some.is)) c.put_ident.ensures
