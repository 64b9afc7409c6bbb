use Rattle.std.proofs.lemmas.Result.{on_err_weaker, on_ok_weaker}
use Rattle.netdb_outside.specs.Outside.{Appends, AppendsFront}
use Rattle.script_run_spec.specs.Written.{written_report}
use Rattle.script_run_all.proofs.Reports.{lent_front, lent_whole}
use Rattle.run_uses.proofs.write.write_history.Goals as goal

pub returns-clause-ok : goal.returns-clause-ok
returns-clause-ok g c =
    let core = c.args.closed.now.core in
    let texts = c.args.closed.now.texts in
    let old = g.K.Sink.written c.args.out.now in
    let new = g.K.Sink.written c.write_report.new.out in
    on_ok_weaker c.write_report.result
    (λ (all : Appends old new (written_report c.head.result.now.design c.log-events.result.now c.as_slice.result.now)).
    lent_whole core texts c.head.result.now c.log-events.result.now c.as_slice.result.now old new c.head.ensures c.log-events.ensures.events c.as_slice.ensures all)
    c.write_report.ensures.ok

pub returns-clause-err : goal.returns-clause-err
returns-clause-err g c =
    let core = c.args.closed.now.core in
    let texts = c.args.closed.now.texts in
    let old = g.K.Sink.written c.args.out.now in
    let new = g.K.Sink.written c.write_report.new.out in
    on_err_weaker c.write_report.result
    (λ (part : AppendsFront old new (written_report c.head.result.now.design c.log-events.result.now c.as_slice.result.now)).
    lent_front core texts c.head.result.now c.log-events.result.now c.as_slice.result.now old new c.head.ensures c.log-events.ensures.events c.as_slice.ensures part)
    c.write_report.ensures.err
