use Rattle.std.proofs.Common.{◌≡◌, length}
use Rattle.netlist_schema.specs.Design.{Design}
use Rattle.par_flat.specs.Desks.{AreDesks}
use Rattle.par_flat.proofs.desks.desks_of.Given as goal

abbrev pub invariant-loop-worker : goal.invariant-loop-worker
invariant-loop-worker l = record {
  len : length l.desks.items ≡ l.worker;
  each : (d : Design) → AreDesks d l.desks.items;
}
