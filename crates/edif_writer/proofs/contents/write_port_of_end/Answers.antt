use Rattle.std.proofs.Common.{ap}
use Rattle.edif_spec.specs.Canonical.{layout, bits_tree}
use Rattle.netdb_outside.proofs.BufferedLemmas.{writes_same}
use Rattle.edif_writer.proofs.contents.write_port_of_end.Goals as goal

pub returns-in-Some : goal.returns-in-Some
returns-in-Some g c level = writes_same (ap (λ o. layout level (bits_tree c.args.array o c.args.end.now.bit)) c.in-Some.ensures) (c.write_bits.ensures level)
