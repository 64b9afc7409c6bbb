use Rattle.std.proofs.Common.{arith, sym}
use Rattle.std.proofs.lemmas.List.{set_past}
use Rattle.net_pins.proofs.spot.set_last.Goals as goal

pub returns-then-count-eq0 : goal.returns-then-count-eq0
returns-then-count-eq0 c = sym (set_past c.args.path.now.items _ c.args.step (omega (arith, c.if-count-eq0.true, c.len-count.ensures)))
