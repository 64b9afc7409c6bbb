-- A view as its callers see it.
use Rattle.std.specs.Prelude.{List, Option}
use Rattle.db_version.specs.Shot.{Shot}
use Rattle.flat_spec.specs.Types.{Item}

-- the version; the items that are left to the walk, where one was begun; and the item that is shown
pub record ViewFacts : Type 0 where
  pub version : Shot
  pub left : Option (List Item)
  pub shown : Option Item
