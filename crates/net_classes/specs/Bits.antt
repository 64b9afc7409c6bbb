-- The own bits of a cell, counted over all its ports.
use Rattle.std.specs.Prelude.{◌≡◌, ◌<◌, ℕ, List, length, slice_index, take, sum_by}
use Rattle.netlist_schema.specs.Design.{port_width}
use Rattle.netlist_schema.specs.Types.{Port}

-- for each port the number of bits of the ports before it
pub record AreStarts (ports : List Port) (starts : List ℕ) : Type 0 where
  pub long : length starts ≡ length ports
  pub each : (n : ℕ) → n < length starts → slice_index starts n ≡ sum_by port_width (take n ports)
