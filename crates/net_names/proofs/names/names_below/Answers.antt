use Rattle.std.proofs.Common.{sym}
use Rattle.net_names.proofs.names.names_below.Goals as goal

pub returns : goal.returns
returns g c = c.hand_down.ensures.handed c.args.depth _ (rw (sym c.net_count-count.ensures) c.in_ok-names.ensures)
