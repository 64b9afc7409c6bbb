use Rattle.std.proofs.Common.{take}
use Rattle.netdb_outside.specs.Buffered.{Writes}
use Rattle.script_spec.specs.Texts.{event_texts}
use Rattle.script_report.proofs.lines.put_events.Given as goal

-- the first events are written
abbrev pub invariant-loop-number : goal.invariant-loop-number
invariant-loop-number g l = Writes g.K.Sink.written g.K.Sink.faults l.fn.out l.fn.page l.out l.page (event_texts (g.S.Shown.design l.design) 0 (take l.number l.events))
