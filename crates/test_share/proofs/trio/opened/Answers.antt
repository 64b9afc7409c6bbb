use Rattle.test_share.proofs.Trios.{opened}
use Rattle.test_share.proofs.trio.opened.Goals as goal

pub returns : goal.returns
returns c = opened c.args.design c.in-Ok.db c.in-Ok.passes.items c.in_ok-first.first c.in_ok-first.second c.in_ok-first.idle c.in-Ok.ensures (c.in_ok-first.ensures c.in-Ok.ensures.many)
