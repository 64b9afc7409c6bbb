use Rattle.flat_spec.proofs.PinLemmas.{net_at_pin-joins, net_at_pin-from}
use Rattle.flat_spec.proofs.laws.pins_are_exact.Goals as goal

pub returns : goal.returns
returns c = λ d root path b x valid. (net_at_pin-joins d root path b x, net_at_pin-from d valid root path b x)
