use Rattle.std.proofs.Common.{◌≤◌, arith}
use Rattle.gen_rounds.proofs.Ends.{has_run, round_places}
use Rattle.gen_rounds.proofs.run.go_through.Goals as goal

pub pin_head-requires : goal.pin_head-requires
pin_head-requires c =
    let small : c.args.count ≤ 4096 = omega arith in
    round_places c.args.count c.args.count c.take_rounds.new.core small c.in_ok-take_rounds.ensures

pub returns-clause-run : goal.returns-clause-run
returns-clause-run c = has_run c.args.count c.take_rounds.new.core c.pin_head.new.core _ c.in_ok-last.last c.in_ok-take_rounds.ensures c.in_ok-core.ensures.pin c.in_ok-last.ensures
