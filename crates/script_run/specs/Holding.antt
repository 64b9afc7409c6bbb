-- What holds between two lines of a script.
use Rattle.script_run_spec.specs.Calls.{HoldsJust}
use Rattle.db_share.specs.Passes.{Shared, Pass, IsReady}
use Rattle.script_held.specs.Holding.{IsHeldBy, held_of}
use Rattle.script_held.specs.declared.held.Held.{Held}

-- between two lines: the pass is ready, and has no live pin but the one that is held
pub record Stands (db : Shared) (pass : Pass) (held : Held) : Type 0 where
  pub ready : IsReady db pass
  pub holds : HoldsJust db.base pass.seen pass.number (held_of held)
  pub mine : IsHeldBy db pass held
