use Rattle.std.proofs.lemmas.Result.{on_ok_weaker}
use Rattle.edif_nets.proofs.NetListing.{single_added}
use Rattle.edif_nets.proofs.rows.add_net.Goals as goal

pub returns : goal.returns
returns c = on_ok_weaker c.add.result (single_added c.args.net c.args.place c.args.list.now c.add.new.self) c.add.ensures
