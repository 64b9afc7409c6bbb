-- Where a walk begins.
use Rattle.std.specs.Prelude.{◌≡◌, ℕ, List, []}
use Rattle.netlist_schema.specs.Design.{Design}
use Rattle.occ_walk.specs.Left.{left_above}
use Rattle.flat_items.specs.Stand.{MayStand, Stand}
use Rattle.flat_items.specs.declared.place.Stage.TheVariants.{Whole}

-- before the first item of the occurrence at the path, where of those above it nothing is left
pub record IsAtStart (d : Design) (path : List ℕ) (s : Stand) : Type 0 where
  pub stands : MayStand d s
  pub path_is : s.path ≡ path
  pub stage_is : s.stage ≡ Whole
  pub fresh : s.here.next ≡ 0
  pub above_is : left_above d [] s.path s.above ≡ []
