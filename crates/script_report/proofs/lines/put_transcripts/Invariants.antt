use Rattle.std.proofs.Common.{take}
use Rattle.netdb_outside.specs.Buffered.{Writes}
use Rattle.script_run_spec.specs.Written.{numbered_texts}
use Rattle.script_report.proofs.lines.put_transcripts.Given as goal

-- the first transcripts are written
abbrev pub invariant-loop-number : goal.invariant-loop-number
invariant-loop-number g l = Writes g.K.Sink.written g.K.Sink.faults l.fn.out l.fn.page l.out l.page (numbered_texts 0 (take l.number l.transcripts))
