-- Questions as their callers see them.
use Rattle.std.specs.Prelude.{List, Option}
use Rattle.db_version.specs.Shot.{Shot}
use Rattle.flat_spec.specs.Types.{Item}

-- the version that is asked, and the items that are left of the list that was begun last, where one was
pub record QuestionFacts : Type 0 where
  pub version : Shot
  pub left : Option (List Item)
