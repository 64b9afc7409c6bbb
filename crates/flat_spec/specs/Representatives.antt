-- The first net of those that are connected.
use Rattle.std.specs.Prelude.{◌≡◌, ◌↔◌, find, unwrap_or}
use Rattle.netlist_schema.specs.Design.{Design}
use Rattle.netlist_schema.specs.Hierarchy.{NoCellIsBelowItself}
use Rattle.netlist_schema.specs.Types.{CellId}
use Rattle.flat_spec.specs.Connection.{Connected}
use Rattle.flat_spec.specs.ConnectionTest.{connects}
use Rattle.flat_spec.specs.Occurrences.{nets}
use Rattle.flat_spec.specs.PathOrder.{NetBefore}
use Rattle.flat_spec.specs.Paths.{IsNet}
use Rattle.flat_spec.specs.declared.item.NetAt.{NetAt}

-- first is connected with the net, and no net that comes before it is
pub record IsRepresentative (d : Design) (root : CellId) (x first : NetAt) : Type 0 where
  pub connected : Connected d root x first
  pub least : (y : NetAt) → Connected d root x y → NetBefore y first → ⊥

-- The first net of the tree that is connected with the net; what is no net of the tree is its own.
-- Rest nothing on how connection is tested: that this is the one representative of the net is all that there is to know.
unfoldable pub representative : Design → CellId → NetAt → NetAt
representative d root x = unwrap_or (find (connects d root x) (nets d root)) x

-- each net below the root has a representative, this one, and no other
abbrev pub EachNetHasOneRepresentative : Type 0
EachNetHasOneRepresentative = (d : Design) (root : CellId) (x : NetAt) → NoCellIsBelowItself d → IsNet d root x
    → IsRepresentative d root x (representative d root x)
    × ((y : NetAt) → IsRepresentative d root x y → y ≡ representative d root x)

-- nets are connected exactly where they have one representative
abbrev pub ConnectedNetsHaveOneRepresentative : Type 0
ConnectedNetsHaveOneRepresentative = (d : Design) (root : CellId) (x y : NetAt) → NoCellIsBelowItself d → IsNet d root x → IsNet d root y
    → (representative d root x ≡ representative d root y) ↔ Connected d root x y
