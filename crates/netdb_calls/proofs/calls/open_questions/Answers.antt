use Rattle.std.proofs.Common.{refl}
use Rattle.netdb_calls.proofs.Others.{no_desk_questioned}
use Rattle.netdb_calls.proofs.calls.open_questions.Goals as goal

pub returns-in_default : goal.returns-in_default
returns-in_default c = no_desk_questioned c.args.opened.now.inside c.args.seat _ c.in_default.not-Desk refl
