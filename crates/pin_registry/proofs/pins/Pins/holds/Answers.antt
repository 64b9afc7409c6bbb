use Rattle.pin_registry.proofs.Live.{counted_is_held}
use Rattle.pin_registry.proofs.pins.Pins.holds.Goals as goal

pub returns : goal.returns
returns c = cc (counted_is_held c.args.version c.self.inside.versions.entries, c.self.invariant.counted c.args.version, c.self.view_is)
