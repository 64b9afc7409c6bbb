use Rattle.std.proofs.Common.{◌+◌, drop, sym}
use Rattle.history_turns.proofs.Turning.{others_left}
use Rattle.history_turns.proofs.places.behind.Goals as goal

pub returns-in-OwesAgain-clause-left : goal.returns-in-OwesAgain-clause-left
returns-in-OwesAgain-clause-left c steps step here = rw c.in-OwesAgain.is here

pub returns-in_default-clause-left : goal.returns-in_default-clause-left
returns-in_default-clause-left c steps step here = sym (others_left c.args.at.now step (drop (c.args.line + 1) steps) c.in_default.not-OwesAgain)
