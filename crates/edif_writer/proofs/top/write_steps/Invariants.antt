use Rattle.std.proofs.Common.{ℕ, map, take}
use Rattle.edif_spelling_spec.specs.Tree.{word}
use Rattle.edif_writer.specs.Lines.{spaced}
use Rattle.netdb_outside.specs.Buffered.{Writes}
use Rattle.edif_writer.proofs.top.write_steps.Given as goal

abbrev pub invariant-loop-step : goal.invariant-loop-step
invariant-loop-step g l = (level : ℕ) → Writes g.K.Sink.written g.K.Sink.faults l.fn.out l.fn.page l.out l.page (spaced level (map word (take l.step-index l.step-items)))
