use Rattle.std.proofs.Common.{◌≡◌, ◌≤◌, ◌*◌, map, take}
use Rattle.std.specs.Prelude.{sum_by}
use Rattle.netlist_schema.specs.Design.{port_width}
use Rattle.edit_spec.specs.AddCell.{new_port}
use Rattle.eco_plans.proofs.cell_plans.bit_count.Given as goal

-- the bits of the ports so far, each of which has few
abbrev pub invariant-loop-port : goal.invariant-loop-port
invariant-loop-port l = (l.bits ≡ sum_by port_width (map new_port (take l.port-index l.ports))) × (l.bits ≤ l.port-index * 65536)
