use Rattle.run_uses.proofs.Uses.{wrote_front, wrote_full, wrote_whole}
use Rattle.run_uses.proofs.write.write_closed.Goals as goal

pub returns-then-closed-clause-writes : goal.returns-then-closed-clause-writes
returns-then-closed-clause-writes g c = λ d scripts run.
    wrote_full c.ended_is_printed.ensures d scripts c.args.closed.now.core c.args.closed.now.texts c.args.closed.now.log_full (g.K.Sink.written c.args.out.now) (g.K.Sink.written c.write_both.new.out) run c.if-closed.true
    c.in-Ok.ensures.ok

pub returns-else-closed-clause-writes : goal.returns-else-closed-clause-writes
returns-else-closed-clause-writes g c = λ d scripts run.
    wrote_whole c.ended_is_printed.ensures d scripts c.args.closed.now.core c.args.closed.now.texts c.args.closed.now.log_full (g.K.Sink.written c.args.out.now) (g.K.Sink.written c.write_both.new.out) run c.if-closed.false
    c.in-Ok.ensures.ok

pub returns-in-Err-clause-writes : goal.returns-in-Err-clause-writes
returns-in-Err-clause-writes g c = λ d scripts run.
    wrote_front c.ended_is_printed.ensures d scripts c.args.closed.now.core c.args.closed.now.texts c.args.closed.now.log_full (g.K.Sink.written c.args.out.now) (g.K.Sink.written c.write_both.new.out) c.in-Err.error run
    c.in-Err.ensures.err
