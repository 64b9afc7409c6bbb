use Rattle.std.proofs.Common.{arith}
use Rattle.test_core.proofs.versions.while_held.Goals as goal

pub end_pin-requires : goal.end_pin-requires
end_pin-requires g c = let pin = c.args.held in c.looks.ensures 0 pin (omega arith) (c.drops.ensures 0 pin (c.commit_net.ensures 0 pin (omega arith) c.requires))
