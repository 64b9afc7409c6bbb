use Rattle.netdb_calls.proofs.Others.{no_desk_written}
use Rattle.netdb_calls.proofs.texts.report_to.Goals as goal

pub returns-in_default-clause-wrote : goal.returns-in_default-clause-wrote
returns-in_default-clause-wrote g c = no_desk_written c.args.opened.now.inside (g.K.Sink.written c.args.out.now) c.in_default.not-Desk
