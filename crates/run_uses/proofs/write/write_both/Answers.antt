use Rattle.std.proofs.lemmas.Result.{on_err_weaker, on_ok_weaker}
use Rattle.netdb_outside.specs.Outside.{Appends, AppendsFront}
use Rattle.netdb_outside.proofs.Appending.{appends_then, front_more, then_front}
use Rattle.std.proofs.Common.{◌++◌}
use Rattle.script_spec.specs.Report.{head_design}
use Rattle.script_run_spec.specs.Written.{written_report}
use Rattle.used_spec.specs.HeadUses.{head_uses_text}
use Rattle.run_uses.proofs.Uses.{on_any_err}
use Rattle.run_uses.proofs.write.write_both.Goals as goal

pub returns-in_err-write_history-clause-err : goal.returns-in_err-write_history-clause-err
returns-in_err-write_history-clause-err g c =
    let core = c.args.closed.now.core in
    let report = written_report (head_design core.opening core.events) core.events c.args.closed.now.texts in
    let uses = head_uses_text core.opening core.events in
    let old = g.K.Sink.written c.args.out.now in
    let mid = g.K.Sink.written c.write_history.new.out in
    on_any_err c.from_residual.result (AppendsFront old mid (report ++ uses)) (front_more old mid report uses c.in_err-write_history.ensures.err)

pub returns-clause-ok : goal.returns-clause-ok
returns-clause-ok g c =
    let core = c.args.closed.now.core in
    let report = written_report (head_design core.opening core.events) core.events c.args.closed.now.texts in
    let uses = head_uses_text core.opening core.events in
    let old = g.K.Sink.written c.args.out.now in
    let mid = g.K.Sink.written c.write_history.new.out in
    let new = g.K.Sink.written c.write_head.new.out in
    on_ok_weaker c.write_head.result (λ (all : Appends mid new uses). appends_then old mid new report uses c.in_ok-write_history.ensures.ok all) c.write_head.ensures.ok

pub returns-clause-err : goal.returns-clause-err
returns-clause-err g c =
    let core = c.args.closed.now.core in
    let report = written_report (head_design core.opening core.events) core.events c.args.closed.now.texts in
    let uses = head_uses_text core.opening core.events in
    let old = g.K.Sink.written c.args.out.now in
    let mid = g.K.Sink.written c.write_history.new.out in
    let new = g.K.Sink.written c.write_head.new.out in
    on_err_weaker c.write_head.result (λ (part : AppendsFront mid new uses). then_front old mid new report uses c.in_ok-write_history.ensures.ok part) c.write_head.ensures.err
