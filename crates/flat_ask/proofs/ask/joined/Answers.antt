use Rattle.flat_ask.proofs.ask.joined.Goals as goal

pub invariant_of-result : goal.invariant_of-result
invariant_of-result g c = rw c.in_ok-shared.ensures (c.requires.ground, c.requires.ways, c.requires.any, c.requires.drivers, c.requires.loads)

pub returns : goal.returns
returns g c = rw c.in_ok-shared.ensures
