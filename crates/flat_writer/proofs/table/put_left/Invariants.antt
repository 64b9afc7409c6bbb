use Rattle.std.proofs.Common.{◌≡◌, length}
use Rattle.netdb_outside.specs.Buffered.{Writes}
use Rattle.flat_writer.proofs.RowLemmas.{AreRowsGiven}
use Rattle.flat_writer.proofs.table.put_left.Given as goal

abbrev pub invariant-rows : goal.invariant-rows
invariant-rows g l = record {
  same : l.walk.design ≡ l.fn.walk.design;
  given : AreRowsGiven (Writes g.K.Sink.written g.K.Sink.faults l.fn.out l.fn.page l.out l.page) l.fn.walk.design l.fn.walk.left l.walk.left;
}

abbrev pub decreases-rows : goal.decreases-rows
decreases-rows g l = length l.walk.left
