use Rattle.std.proofs.Common.{◌≡◌, ◌+◌, ◌%◌, ◌≤◌, arith}
use Rattle.gen_rounds.proofs.Ends.{collect_places, round_collected, round_over}
use Rattle.gen_rounds.proofs.rounds.end_round.Goals as goal

pub collect-requires : goal.collect-requires
collect-requires c =
    let small : c.args.passed ≤ 4096 = omega arith in
    collect_places c.args.count c.args.passed c.args.core.now small c.requires.stands

pub returns-then-passed-ne0 : goal.returns-then-passed-ne0
returns-then-passed-ne0 c = round_over c.args.count c.args.passed c.args.core.now c.if-passed-ne0.true c.requires.stands

pub returns : goal.returns
returns c =
    let divides : (c.args.passed + 1) % 16 ≡ 0 = omega arith in
    round_collected c.args.count c.args.passed c.in_ok-collect.field-0 c.args.core.now c.collect.new.core divides c.requires.stands c.in_ok-collect.ensures
