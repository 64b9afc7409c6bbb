use Rattle.std.proofs.Common.{◌++◌, ◌∙◌, ap, take}
use Rattle.netdb_outside.proofs.BufferedLemmas.{writes_then, writes_same}
use Rattle.script_run_spec.specs.Written.{numbered_text, numbered_texts}
use Rattle.script_report.proofs.Numbered.{one_more_text}
use Rattle.script_report.proofs.lines.put_transcripts.Goals as goal

pub loop-number-preserved : goal.loop-number-preserved
loop-number-preserved g c =
    let n = c.loop-number.number in
    writes_same
    (ap (λ text. numbered_texts 0 (take n c.args.transcripts.now) ++ numbered_text n text) c.as_slice.ensures.value
    ∙ one_more_text c.args.transcripts.now n c.index-transcripts-number.result c.loop-number-test.true c.index-transcripts-number.is)
    (writes_then c.loop-number.invariant c.put_transcript.ensures)
