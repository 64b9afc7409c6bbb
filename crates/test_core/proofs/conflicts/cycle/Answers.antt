use Rattle.std.proofs.Common.{arith}
use Rattle.test_core.proofs.conflicts.cycle.Goals as goal

pub clash-requires : goal.clash-requires
clash-requires g c = c.overtaken-held.ensures.second

pub end_pin-requires : goal.end_pin-requires
end_pin-requires g c = let pin = c.overtaken-held.result.0 in c.try_anew.ensures 0 pin (omega arith) (c.clash.ensures 0 pin (omega arith) c.overtaken-held.ensures.first)
