-- One script and its pass.
use Rattle.std.specs.Prelude.{◌≡◌, ◌<◌, ℕ, List, [], length, slice_index_or}
use Rattle.script_spec.specs.Headline.{CanWalk, Ran}
use Rattle.script_spec.specs.ScriptText.{Parts}
use Rattle.script_spec.specs.declared.script.Step.{Step}
use Rattle.db_share.specs.Passes.{Shared, Pass, IsReady}
use Rattle.script_run_spec.specs.Ended.{Ended}
use Rattle.script_run_spec.specs.Scripts.{all_steps}
use Rattle.script_run_all.specs.declared.workers.Done.{Done}

-- a pass with which no call was made yet, of the number of one of the scripts
pub record IsFresh (db : Shared) (scripts : List Parts) (pass : Pass) : Type 0 where
  pub ready : IsReady db pass
  pub unused : pass.own ≡ []
  pub one : pass.number < length scripts
  pub walks : CanWalk db.base (all_steps scripts)

-- what a script came to
abbrev pub end_of : Done → Ended
end_of done = record { text = done.transcript.text; log_full = done.transcript.log_full }

-- the script of this number was run with the pass of its number, which is ready again
pub record IsDone (db : Shared) (scripts : List (List Step)) (number : ℕ) (done : Done) : Type 0 where
  pub ready : IsReady db done.pass
  pub mine : done.pass.number ≡ number
  pub ran : Ran db.base done.pass.seen number (slice_index_or scripts number []) (end_of done).text (end_of done).log_full
