use Rattle.std.proofs.Common.{sym, ◌∙◌}
use Rattle.std.proofs.lemmas.Result.{on_ok_weaker}
use Rattle.edif_nets.proofs.NetListing.{only_added, without_array}
use Rattle.edif_nets.proofs.rows.add_row.Goals as goal

pub returns : goal.returns
returns c =
    let n = c.args.form in
    let a = without_array n.array (sym c.is_some.ensures ∙ c.if-is_some.false) in
    on_ok_weaker c.add.result (only_added n c.args.place c.in_ok-net.net c.args.list.now c.add.new.self a c.in_ok-net.ensures) c.add.ensures
