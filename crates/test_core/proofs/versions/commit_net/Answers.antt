use Rattle.test_core.proofs.versions.commit_net.Goals as goal

pub returns : goal.returns
returns g c = λ other pin apart is. c.end_pin.ensures other pin apart (c.accepted-pin.ensures.keeps other pin (c.try_on_head-tx.ensures.keeps other pin is))
