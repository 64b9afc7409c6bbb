use Rattle.std.proofs.Common.{◌≡◌, length}
use Rattle.netdb_outside.specs.Buffered.{Writes}
use Rattle.flat_writer.proofs.GivenLemmas.{AreGiven}
use Rattle.flat_writer.proofs.flat.put_left.Given as goal

abbrev pub invariant-lines : goal.invariant-lines
invariant-lines g l = record {
  same : l.walk.design ≡ l.fn.walk.design;
  given : AreGiven (Writes g.K.Sink.written g.K.Sink.faults l.fn.out l.fn.page l.out l.page) l.fn.walk.design l.fn.limit l.room l.fn.walk.left l.walk.left;
}

abbrev pub decreases-lines : goal.decreases-lines
decreases-lines g l = length l.walk.left
