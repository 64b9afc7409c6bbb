use Rattle.std.proofs.Common.{◌≤◌, ◌-◌, take}
use Rattle.flat_spec.specs.Flattening.{flattening}
use Rattle.flat_lines_spec.specs.Lines.{item_lines}
use Rattle.par_flat.specs.Desks.{IsCrew, waiting_text}
use Rattle.par_flat.proofs.TextLemmas.{IsAhead}
use Rattle.par_flat.proofs.write.put_items.Given as goal

abbrev pub invariant-rounds : goal.invariant-rounds
invariant-rounds g l = record {
  ahead : IsAhead (g.K.Sink.written l.fn.out) (g.K.Sink.written l.out) (waiting_text l.crew) (item_lines l.ground (take l.first (flattening l.ground)));
  never_falls : g.K.Sink.faults l.fn.out ≤ g.K.Sink.faults l.out;
  some : 1 ≤ l.at_once;
  few : l.at_once ≤ 1048576;
  crew : IsCrew l.ground l.workers l.crew;
}

abbrev pub decreases-rounds : goal.decreases-rounds
decreases-rounds g l = l.count - l.first
