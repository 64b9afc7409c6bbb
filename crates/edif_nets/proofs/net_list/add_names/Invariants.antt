use Rattle.std.proofs.Common.{◌≡◌, ◌++◌, drop}
use Rattle.netlist_schema.specs.Names.{AreDistinct}
use Rattle.edif_parts.specs.Names.{ids}
use Rattle.edif_nets.specs.NetLists.{named}
use Rattle.edif_nets.proofs.net_list.add_names.Given as goal

-- the names so far, which differ, and those that are left are all of them
abbrev pub invariant-loop-index : goal.invariant-loop-index
invariant-loop-index l = record {
  names : l.names ++ named (drop l.index l.nets) (drop l.index l.places) ≡ named l.nets l.places;
  distinct : AreDistinct (ids l.names);
}
