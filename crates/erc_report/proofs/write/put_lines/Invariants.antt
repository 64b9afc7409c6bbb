use Rattle.std.proofs.Common.{take}
use Rattle.netdb_outside.specs.Buffered.{Writes}
use Rattle.erc_spec.specs.Lines.{finding_lines}
use Rattle.erc_report.proofs.write.put_lines.Given as goal

-- the lines of the findings so far were written
abbrev pub invariant-loop-finding : goal.invariant-loop-finding
invariant-loop-finding g l = Writes g.K.Sink.written g.K.Sink.faults l.fn.out l.fn.page l.out l.page (finding_lines (g.S.Shown.design l.design) (take l.finding-index l.found))
