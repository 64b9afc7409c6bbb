use Rattle.edif_spec.specs.Arranged.{canonical_text}
use Rattle.report_parts.proofs.Sinks.{other_put, whole_put}
use Rattle.report_parts.proofs.rests.is_design.Goals as goal

pub returns-in-Ok : goal.returns-in-Ok
returns-in-Ok g c = whole_put c.new-sink.result c.write_design.new.out c.args.text.now (canonical_text (g.S.Shown.design c.args.design.now)) c.is_whole.result c.new-sink.ensures c.in-Ok.ensures.ok c.is_whole.ensures.whole

pub returns-in-Err-WriteFault : goal.returns-in-Err-WriteFault
returns-in-Err-WriteFault g c =
    other_put c.new-sink.result c.write_design.new.out c.args.text.now (canonical_text (g.S.Shown.design c.args.design.now)) c.is_whole-in-Err-WriteFault.result c.new-sink.ensures c.in-Err-WriteFault.ensures.err (c.in-Err-WriteFault.ensures.fault (let is = c.in-Err-WriteFault.field-0-is in cc (is)))
    c.is_whole-in-Err-WriteFault.ensures.parted c.is_whole-in-Err-WriteFault.ensures.whole
