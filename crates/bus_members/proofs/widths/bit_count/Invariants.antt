use Rattle.std.proofs.Common.{◌≡◌, ◌*◌, ◌≤◌, take}
use Rattle.std.specs.Prelude.{sum_by}
use Rattle.netlist_schema.specs.Design.{port_width}
use Rattle.netlist_schema.specs.declared.limits.TheConstants.{MOST_WIDTH}
use Rattle.bus_members.proofs.widths.bit_count.Given as goal

-- the bits of the ports so far, at most as many for each as a port may have
abbrev pub invariant-loop-port : goal.invariant-loop-port
invariant-loop-port l = record {
  counted : l.bits ≡ sum_by port_width (take l.port-index l.port-items);
  bounded : l.bits ≤ MOST_WIDTH * l.port-index;
}
