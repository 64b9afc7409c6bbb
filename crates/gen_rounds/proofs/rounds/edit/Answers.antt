use Rattle.std.proofs.Common.{◌≤◌, ◌∙◌, sym, arith}
use Rattle.gen_spec.specs.Generated.{generated}
use Rattle.db_spec.specs.History.{version_at}
use Rattle.gen_rounds.proofs.Ends.{back_is_live, commit_places, round_committed, round_pin, round_pinned, round_places, round_released}
use Rattle.gen_rounds.proofs.rounds.edit.Goals as goal

pub pin_head-requires : goal.pin_head-requires
pin_head-requires c =
    let small : c.args.passed ≤ 4096 = omega arith in
    round_places c.args.count c.args.passed c.args.core.now small c.requires.stands

pub commit_on_head-requires-clause-places : goal.commit_on_head-requires-clause-places
commit_on_head-requires-clause-places c =
    let small : c.args.passed ≤ 4096 = omega arith in
    commit_places c.args.count c.args.passed c.pin_head.new.core small (round_pinned c.args.count c.args.passed c.args.core.now c.pin_head.new.core c.in_ok-pin.pin c.requires.stands c.in_ok-pin.ensures)

pub commit_on_head-requires-clause-last : goal.commit_on_head-requires-clause-last
commit_on_head-requires-clause-last c =
    let pinned = round_pinned c.args.count c.args.passed c.args.core.now c.pin_head.new.core c.in_ok-pin.pin c.requires.stands c.in_ok-pin.ensures in
    let is = round_pin c.args.count c.args.passed c.args.core.now c.pin_head.new.core c.in_ok-pin.pin c.requires.stands c.in_ok-pin.ensures in
    is.version_is ∙ sym pinned.last_is

pub release-requires : goal.release-requires
release-requires c =
    let n = c.args.count in
    let k = c.args.passed in
    let mid = c.pin_head.new.core in
    let pin = c.in_ok-pin.pin in
    let pinned = round_pinned n k c.args.core.now mid pin c.requires.stands c.in_ok-pin.ensures in
    let is = round_pin n k c.args.core.now mid pin c.requires.stands c.in_ok-pin.ensures in
    let d = version_at (generated n) mid.events k in
    let done = round_committed n k mid c.commit_on_head.new.core d pin c.in_ok-back.back c.in_ok-op.op pinned is c.in_ok-op.ensures c.in_ok-back.ensures in
    back_is_live n k c.commit_on_head.new.core d pin c.in_ok-back.back done is c.in_ok-back.ensures.back_is

pub returns : goal.returns
returns c =
    let n = c.args.count in
    let k = c.args.passed in
    let mid = c.pin_head.new.core in
    let pin = c.in_ok-pin.pin in
    let pinned = round_pinned n k c.args.core.now mid pin c.requires.stands c.in_ok-pin.ensures in
    let is = round_pin n k c.args.core.now mid pin c.requires.stands c.in_ok-pin.ensures in
    let d = version_at (generated n) mid.events k in
    let done = round_committed n k mid c.commit_on_head.new.core d pin c.in_ok-back.back c.in_ok-op.op pinned is c.in_ok-op.ensures c.in_ok-back.ensures in
    round_released n k c.commit_on_head.new.core c.release.new.self d pin c.in_ok-back.back done is c.in_ok-back.ensures.back_is c.release.ensures
