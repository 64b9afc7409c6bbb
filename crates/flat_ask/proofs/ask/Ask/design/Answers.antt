use Rattle.flat_ask.proofs.ask.Ask.design.Goals as goal

pub returns : goal.returns
returns g c = rw c.get.ensures c.self.view_is
