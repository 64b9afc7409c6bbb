use Rattle.std.proofs.Common.{subst, sym}
use Rattle.test_core.specs.Keeps.{IsPinBy}
use Rattle.test_core.proofs.conflicts.try_anew.Goals as goal

pub end_pin-requires : goal.end_pin-requires
end_pin-requires g c = subst (IsPinBy _ 1) (sym c.abandon-anew.ensures) c.try_on_head-again.ensures.pin

pub returns : goal.returns
returns g c = λ other pin apart is. c.end_pin.ensures other pin apart (c.try_on_head-again.ensures.keeps other pin is)
