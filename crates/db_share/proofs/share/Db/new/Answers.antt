use Rattle.std.proofs.Common.{◌≡◌, length, ap, rules}
use Rattle.db_core.specs.Story.{Story}
use Rattle.db_share.proofs.Opened.{opens}
use Rattle.db_share.proofs.share.Db.new.Goals as goal

pub returns : goal.returns
returns c =
    let made = c.in_ok-turn.ensures in
    let many : length c.in_ok-turn.passes.items ≡ c.args.callers = search rules in
    opens c.args.design c.args.callers c.in_ok-turn.turn c.in_ok-turn.passes.items c.in_ok-core.core.opening c.history_is_legal.ensures.history.valid (ap (λ (s : Story). s.opening) c.in_ok-core.ensures) made.turn.0 made.turn.1 many made.seats.1
