-- Labels of the nets of a list, each the place of a net.
use Rattle.std.specs.Prelude.{◌≡◌, ◌<◌, ◌≤◌, ℕ, List, [], Bool, true, length, slice_index, slice_index_or}
use Rattle.netlist_schema.specs.Design.{Design}
use Rattle.netlist_schema.specs.Types.{CellId}
use Rattle.flat_spec.specs.Connection.{Connected}
use Rattle.flat_spec.specs.ConnectionTest.{are_neighbours}
use Rattle.flat_spec.specs.Types.{NetAt}

-- the net at a place of the list
abbrev pub net_at_place : List NetAt → ℕ → NetAt
net_at_place xs i = slice_index_or xs i (record { path = []; net = 0 })

-- whether the nets at two places meet, in either direction
unfoldable pub near : Design → CellId → List NetAt → ℕ → ℕ → Bool
near d root xs i j = are_neighbours d root (net_at_place xs i) (net_at_place xs j)

-- each net has as its label the place of a connected net that does not come later
pub record AreLabels (d : Design) (root : CellId) (xs : List NetAt) (labels : List ℕ) : Type 0 where
  pub long : length labels ≡ length xs
  pub earlier : (i : ℕ) → i < length xs → slice_index labels i ≤ i
  pub connected : (i : ℕ) → i < length xs → Connected d root (net_at_place xs i) (net_at_place xs (slice_index labels i))

-- the net's label is not above that of a net that meets it
abbrev pub IsSettledAt : Design → CellId → List NetAt → List ℕ → ℕ → Type 0
IsSettledAt d root xs labels i = (j : ℕ) → j < length xs → near d root xs i j ≡ true → slice_index labels i ≤ slice_index labels j

-- nets that meet have one label
abbrev pub AreSettled : Design → CellId → List NetAt → List ℕ → Type 0
AreSettled d root xs labels = (i : ℕ) → i < length xs → IsSettledAt d root xs labels i
