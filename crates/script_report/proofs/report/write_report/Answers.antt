use Rattle.std.proofs.Common.{◌++◌}
use Rattle.std.proofs.lemmas.Result.{on_ok_weaker}
use Rattle.edif_spec.specs.Arranged.{canonical_text}
use Rattle.netdb_outside.specs.Outside.{Appends, AppendsFront}
use Rattle.netdb_outside.proofs.Appending.{appends_then, front_more, then_front}
use Rattle.script_run_spec.specs.Written.{report_lines}
use Rattle.script_report.proofs.Parts.{err_weaker, on_any_err}
use Rattle.script_report.proofs.report.write_report.Goals as goal

pub returns-in_err-write_lines-clause-err : goal.returns-in_err-write_lines-clause-err
returns-in_err-write_lines-clause-err g c =
    let d = g.S.Shown.design c.args.last.now in
    let lines = report_lines d c.args.events.now c.args.transcripts.now in
    let old = g.K.Sink.written c.args.out.now in
    let mid = g.K.Sink.written c.write_lines.new.out in
    on_any_err c.from_residual.result (AppendsFront old mid (lines ++ canonical_text d)) (front_more old mid lines (canonical_text d) c.in_err-write_lines.ensures.err)

pub returns-clause-ok : goal.returns-clause-ok
returns-clause-ok g c =
    let d = g.S.Shown.design c.args.last.now in
    let lines = report_lines d c.args.events.now c.args.transcripts.now in
    let old = g.K.Sink.written c.args.out.now in
    let mid = g.K.Sink.written c.write_lines.new.out in
    let new = g.K.Sink.written c.write_design.new.out in
    on_ok_weaker c.write_design.result
    (λ (all : Appends mid new (canonical_text d)). appends_then old mid new lines (canonical_text d) c.in_ok-write_lines.ensures.ok all)
    c.write_design.ensures.ok

pub returns-clause-err : goal.returns-clause-err
returns-clause-err g c =
    let d = g.S.Shown.design c.args.last.now in
    let lines = report_lines d c.args.events.now c.args.transcripts.now in
    let old = g.K.Sink.written c.args.out.now in
    let mid = g.K.Sink.written c.write_lines.new.out in
    let new = g.K.Sink.written c.write_design.new.out in
    err_weaker c.write_design.result (AppendsFront mid new (canonical_text d)) (AppendsFront old new (lines ++ canonical_text d))
    (λ part. then_front old mid new lines (canonical_text d) c.in_ok-write_lines.ensures.ok part)
    c.write_design.ensures.err
