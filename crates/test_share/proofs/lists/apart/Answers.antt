use Rattle.test_share.proofs.Trios.{three}
use Rattle.test_share.proofs.lists.apart.Goals as goal

pub returns : goal.returns
returns g c = λ many. three c.args.list.items c.pop.new.self.items c.pop-2.new.self.items c.pop-3.new.self.items c.in_ok-first.first c.in_ok-second.second c.in_ok-third.third many c.in_ok-third.ensures.items c.in_ok-second.ensures.items c.in_ok-first.ensures.items
