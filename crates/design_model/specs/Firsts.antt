-- The nets of a list, and beside each the place of its representative in the list.
use Rattle.std.specs.Prelude.{◌≡◌, ℕ, List, length, slice_index, slice_get, Some}
use Rattle.netlist_schema.specs.Design.{Design}
use Rattle.netlist_schema.specs.Types.{CellId}
use Rattle.flat_spec.specs.Representatives.{representative}
use Rattle.flat_spec.specs.Types.{NetAt}

-- the net at each place has its representative at the place that is noted for it
pub record AreFirsts (d : Design) (root : CellId) (xs : List NetAt) (places : List ℕ) : Type 0 where
  pub long : length places ≡ length xs
  pub first : (i : ℕ) (x : NetAt) → slice_get xs i ≡ Some x → slice_get xs (slice_index places i) ≡ Some (representative d root x)
