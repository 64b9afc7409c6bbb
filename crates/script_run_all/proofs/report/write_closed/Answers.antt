use Rattle.script_run_all.proofs.Reports.{lent_front, lent_whole, wrote_front, wrote_full, wrote_whole}
use Rattle.script_run_all.proofs.report.write_closed.Goals as goal

pub returns-then-closed-clause-writes : goal.returns-then-closed-clause-writes
returns-then-closed-clause-writes g c = λ d scripts run.
    wrote_full c.ended_is_printed.ensures d scripts c.args.closed.now.core c.args.closed.now.texts c.args.closed.now.log_full (g.K.Sink.written c.args.out.now) (g.K.Sink.written c.write_report.new.out) run c.if-closed.true
    (lent_whole c.args.closed.now.core c.args.closed.now.texts c.head.result.now c.log-events.result.now c.as_slice.result.now (g.K.Sink.written c.args.out.now) (g.K.Sink.written c.write_report.new.out) c.head.ensures c.log-events.ensures.events c.as_slice.ensures c.in-Ok.ensures.ok)

pub returns-else-closed-clause-writes : goal.returns-else-closed-clause-writes
returns-else-closed-clause-writes g c = λ d scripts run.
    wrote_whole c.ended_is_printed.ensures d scripts c.args.closed.now.core c.args.closed.now.texts c.args.closed.now.log_full (g.K.Sink.written c.args.out.now) (g.K.Sink.written c.write_report.new.out) run c.if-closed.false
    (lent_whole c.args.closed.now.core c.args.closed.now.texts c.head.result.now c.log-events.result.now c.as_slice.result.now (g.K.Sink.written c.args.out.now) (g.K.Sink.written c.write_report.new.out) c.head.ensures c.log-events.ensures.events c.as_slice.ensures c.in-Ok.ensures.ok)

pub returns-in-Err-clause-writes : goal.returns-in-Err-clause-writes
returns-in-Err-clause-writes g c = λ d scripts run.
    wrote_front c.ended_is_printed.ensures d scripts c.args.closed.now.core c.args.closed.now.texts c.args.closed.now.log_full (g.K.Sink.written c.args.out.now) (g.K.Sink.written c.write_report.new.out) c.in-Err.error run
    (lent_front c.args.closed.now.core c.args.closed.now.texts c.head.result.now c.log-events.result.now c.as_slice.result.now (g.K.Sink.written c.args.out.now) (g.K.Sink.written c.write_report.new.out) c.head.ensures c.log-events.ensures.events c.as_slice.ensures c.in-Err.ensures.err)
