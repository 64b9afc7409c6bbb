use Rattle.std.proofs.Common.{arith}
use Rattle.net_pins.proofs.FoundLemmas.{dropped}
use Rattle.net_pins.proofs.spot.drop_last.Goals as goal

pub returns : goal.returns
returns g c = dropped c.args.xs.now.items c.pop.new.self.items c.pop.result c.pop.ensures.items (c.pop.ensures.variant.1 (omega (arith, c.requires)))
