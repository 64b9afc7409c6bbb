use Rattle.std.proofs.Common.{◌∷◌, replicate}
use Rattle.netdb_outside.specs.Buffered.{Writes}
use Rattle.edif_writer.proofs.spelled.put_far.Given as goal

abbrev pub invariant-loop : goal.invariant-loop
invariant-loop g l = Writes g.K.Sink.written g.K.Sink.faults l.fn.out l.fn.page l.out l.page (10 ∷ replicate l.counter 32)
