use Rattle.std.proofs.Common.{◌≡◌, ◌++◌, drop}
use Rattle.std.specs.List.{zip}
use Rattle.netlist_schema.specs.Names.{AreDistinct}
use Rattle.edif_nets.specs.Joins.{bits}
use Rattle.edif_nets.proofs.joins.join_ends.Given as goal

-- the ends so far, which join different bits, and those that are left are all of them
abbrev pub invariant-loop-index : goal.invariant-loop-index
invariant-loop-index l = record {
  ends : l.joins ++ zip (drop l.index l.ends) (drop l.index l.places) ≡ zip l.ends l.places;
  distinct : AreDistinct (bits l.joins);
}
