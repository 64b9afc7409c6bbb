use Rattle.std.proofs.Common.{◌≡◌, ◌<◌, ℕ, length, get_or}
use Rattle.std.specs.Prelude.{take, sum_by}
use Rattle.netlist_schema.specs.Design.{port_width}
use Rattle.net_classes.proofs.bits.port_starts.Given as goal

abbrev pub invariant-loop-port : goal.invariant-loop-port
invariant-loop-port l = record {
  bits : l.bits ≡ sum_by port_width (take l.port-index l.fn.body.ports);
  long : length l.starts.items ≡ l.port-index;
  each : (n : ℕ) → n < l.port-index → get_or l.starts.items n 0 ≡ sum_by port_width (take n l.fn.body.ports);
}
