use Rattle.gen_rounds.proofs.Commits.{meets_no_conflict}
use Rattle.gen_rounds.proofs.rounds.commit.Goals as goal

pub returns-in-Ok : goal.returns-in-Ok
returns-in-Ok c = (c.in-Ok.field-0-0, c.in-Ok.ensures)

pub unreachable-requires : goal.unreachable-requires
unreachable-requires c =
    let refused = rw c.in-Err-LogFull-default.field-0-0-is at c.in-Err-LogFull-default.ensures in
    refused.1.full c.requires.places

pub unreachable-requires-in-Err-Conflict-default : goal.unreachable-requires-in-Err-Conflict-default
unreachable-requires-in-Err-Conflict-default c =
    let refused = rw c.in-Err-Conflict-default.field-0-0-is at c.in-Err-Conflict-default.ensures in
    meets_no_conflict c.args.core.now c.commit.new.self c.args.tx _ _ c.history_is_legal.ensures.history c.requires.pin c.requires.last refused.1
