use Rattle.std.proofs.Common.{take}
use Rattle.std.specs.List.{flat_map}
use Rattle.netdb_outside.specs.Buffered.{Writes}
use Rattle.used_spec.specs.Lines.{use_line}
use Rattle.used_lines.proofs.lines.put_uses.Given as goal

-- the first uses are written
abbrev pub invariant-loop-number : goal.invariant-loop-number
invariant-loop-number g l = Writes g.K.Sink.written g.K.Sink.faults l.fn.out l.fn.page l.out l.page (flat_map (use_line (g.S.Shown.design l.design)) (take l.number l.users))
