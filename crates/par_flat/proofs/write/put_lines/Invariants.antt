use Rattle.std.proofs.Common.{◌≤◌, take}
use Rattle.netdb_outside.specs.Outside.{Appends}
use Rattle.par_flat.specs.Desks.{text_of}
use Rattle.par_flat.proofs.write.put_lines.Given as goal

abbrev pub invariant-loop-lines : goal.invariant-loop-lines
invariant-loop-lines g l = record {
  written : Appends (g.K.Sink.written l.fn.out) (g.K.Sink.written l.out) (text_of (take l.lines-index l.ready));
  never_falls : g.K.Sink.faults l.fn.out ≤ g.K.Sink.faults l.out;
}
