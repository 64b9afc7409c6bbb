use Rattle.test_share.proofs.Trios.{all_ready, each_seat}
use Rattle.test_share.proofs.trio.closed.Goals as goal

pub close-requires-clause-ready : goal.close-requires-clause-ready
close-requires-clause-ready c = all_ready c.args.db c.args.trio c.requires c.in_ok-passes.passes.items c.in_ok-passes.ensures

pub close-requires-clause-all : goal.close-requires-clause-all
close-requires-clause-all c = each_seat c.args.db c.args.trio c.requires c.in_ok-passes.passes.items c.in_ok-passes.ensures
