-- What the lines of a script come to, on a shared database.
use Rattle.std.specs.Prelude.{◌≡◌, ℕ, ◌+◌, List, [], ◌∷◌, Option, Some, None, Result, Ok, Err, slice_get, true, false}
use Rattle.std.specs.List.{flat_map}
use Rattle.edit_rules_spec.specs.declared.reply.Reply.{Reply}
use Rattle.edit_spec.specs.declared.ops.Op.{Op}
use Rattle.edit_tx.specs.Facts.{started}
use Rattle.db_spec.specs.History.{version_at}
use Rattle.db_spec.specs.declared.event.Answer.TheVariants as answer
use Rattle.db_spec.specs.declared.event.Call.TheVariants as call
use Rattle.db_spec.specs.declared.event.Event.{Event}
use Rattle.netlist_schema.specs.Types.{Object}
use Rattle.script_spec.specs.Headline.{Ran}
use Rattle.script_spec.specs.Session.{Began, Conflict, Held as SessionHeld, Nothing, Told, last_release, release, replied}
use Rattle.script_spec.specs.Texts.{line, reply_text}
use Rattle.script_spec.specs.declared.script.Step.{Step}
use Rattle.script_spec.specs.declared.script.Step.TheVariants.{Begin, Collect, Commit}
use Rattle.script_spec.specs.declared.script.ScriptLine.{ScriptLine}
use Rattle.script_spec.specs.ScriptText.{Place, behind}
use Rattle.std.specs.Option.{option_map_or}
use Rattle.script_run_spec.specs.Calls.{Makes, Writes}
use Rattle.script_run_spec.specs.Lines.{GoesOn, IsBroken, IsFilled, RunsAgain}
use Rattle.script_run_spec.specs.Whole.{IsBrokenOff}
use Rattle.db_share.specs.Passes.{Shared, Pass}
use Rattle.script_held.specs.Holding.{IsHeldBy, block_of, held_of}
use Rattle.script_held.specs.declared.held.Block.{Block}
use Rattle.script_held.specs.declared.held.Held.{Held}
use Rattle.script_held.specs.declared.held.Held.TheVariants.{InBlock, Nothing as Empty}
use Rattle.script_held.specs.declared.held.Stop.{Stop}
use Rattle.script_held.specs.declared.held.Stop.TheVariants.{LogFull, NoMemory}
use Rattle.script_run.specs.Holding.{Stands}

-- the line was run, and this is held then
abbrev pub Went : Shared → Pass → Pass → List ℕ → List ℕ → SessionHeld → Step → Held → Type 0
Went db old new before text held step next = GoesOn db.base old.number old.seen new.seen before text held step (held_of next) × IsHeldBy db new next

-- the line stopped the script: the log was full, or memory was refused
abbrev pub Stops : Shared → Pass → Pass → List ℕ → List ℕ → SessionHeld → Step → Stop → Type 0
Stops db old new before text held step (LogFull next) = IsFilled db.base old.number old.seen new.seen before text held step (held_of next) × IsHeldBy db new next
Stops db old new before text held step (NoMemory next) = IsBroken db.base old.number old.seen new.seen held step (held_of next) × IsHeldBy db new next

-- what a line came to
abbrev pub Comes : Shared → Pass → Pass → List ℕ → List ℕ → SessionHeld → Step → Result Held Stop → Type 0
Comes db old new before text held step (Ok next) = Went db old new before text held step next
Comes db old new before text held step (Err stop) = Stops db old new before text held step stop

-- what a line that begins a transaction came to: with so many retries, nothing was run yet
abbrev pub Starts : Shared → Pass → Pass → List ℕ → List ℕ → ℕ → Result Block Stop → Type 0
Starts db old new before text retries (Ok block) =
    Went db old new before text Nothing (Begin retries) (InBlock block) × (block.retries ≡ retries) × (block.tx ≡ started block.tx.pin)
Starts db old new before text retries (Err stop) = Stops db old new before text Nothing (Begin retries) stop

-- what a commit came to whose word was said or not
abbrev pub accepted : {A E : Type 0} → Result A E → Result (Option (List Op)) Stop
accepted (Ok a) = Ok None
accepted (Err e) = Err (NoMemory Empty)

-- what a refused commit came to, whose operations came back where its word was said
abbrev pub refused : {E : Type 0} → Result (List Op) E → Result (Option (List Op)) Stop
refused (Ok ops) = Ok (Some ops)
refused (Err e) = Err (NoMemory Empty)

-- the commit met a conflict, which was said, and the pin was released: the operations came back
pub record Refused (db : Shared) (old new : Pass) (before text : List ℕ) (block : Block) (ops : List Op) : Type 0 where
  pub object : Object
  pub later : ℕ
  pub same : ops ≡ block.tx.ops
  pub makes : Makes db.base old.number old.seen new.seen (Told (call.Commit block.tx.pin.number block.tx.ops) (answer.Conflict object later) ∷ release block.tx.pin.number ∷ [])
  pub writes : Writes db.base new.seen before text (Conflict object later ∷ [])
  pub stands : Stands db new Empty

-- what one commit of a block came to: the block has ended, or the commit was refused
abbrev pub Commits : Shared → Pass → Pass → List ℕ → List ℕ → Block → Result (Option (List Op)) Stop → Type 0
Commits db old new before text block (Ok None) = GoesOn db.base old.number old.seen new.seen before text (block_of block) Commit Nothing
Commits db old new before text block (Ok (Some ops)) = Refused db old new before text block ops
Commits db old new before text block (Err stop) = Stops db old new before text (block_of block) Commit stop

-- operations were run again on a new pin, with so many retries left
pub record Begun (db : Shared) (old new : Pass) (before text : List ℕ) (ops : List Op) (retries : ℕ) (next : Block) : Type 0 where
  pub left : next.retries ≡ retries
  pub same : next.tx.ops ≡ ops
  pub makes : Makes db.base old.number old.seen new.seen (Told call.Pin (answer.Pinned next.tx.pin.number next.tx.pin.version) ∷ [])
  pub writes : Writes db.base new.seen before text (Began next.tx.pin.version ∷ replied (version_at db.base new.seen next.tx.pin.version) ops)
  pub stands : Stands db new (InBlock next)

-- what beginning again came to
abbrev pub BeginsAgain : Shared → Pass → Pass → List ℕ → List ℕ → List Op → ℕ → Result Block Stop → Type 0
BeginsAgain db old new before text ops retries (Ok next) = Begun db old new before text ops retries next
BeginsAgain db old new before text ops retries (Err stop) = Stops db old new before text Nothing (Begin retries) stop

-- the block is to be committed again on a new pin, with one retry less
pub record Again (db : Shared) (old new : Pass) (before text : List ℕ) (block next : Block) : Type 0 where
  pub retries : block.retries ≡ next.retries + 1
  pub ops : next.tx.ops ≡ block.tx.ops
  pub runs : RunsAgain db.base old.number old.seen new.seen before text block.tx.pin.number block.tx.pin.version block.tx.ops next.tx.pin.number next.tx.pin.version
  pub stands : Stands db new (InBlock next)

-- what one commit of a block came to: the block has ended, or it is to be committed again
abbrev pub Tries : Shared → Pass → Pass → List ℕ → List ℕ → Block → Result (Option Block) Stop → Type 0
Tries db old new before text block (Ok None) = GoesOn db.base old.number old.seen new.seen before text (block_of block) Commit Nothing
Tries db old new before text block (Ok (Some next)) = Again db old new before text block next
Tries db old new before text block (Err stop) = Stops db old new before text (block_of block) Commit stop

-- replies, each in a line
abbrev pub reply_lines : List Reply → List ℕ
reply_lines replies = flat_map (λ reply. line (reply_text reply ∷ [])) replies

-- What the lines came to: with the release of what is still held, the script has run, to its end or to a full log, or was broken
-- off.
abbrev pub Ends : Shared → Pass → List Step → List ℕ → Result Held Stop → Type 0
Ends db pass steps text (Ok held) = IsHeldBy db pass held
    × ((last : List Event) → Makes db.base pass.number pass.seen last (last_release (held_of held)) → Ran db.base last pass.number steps text false)
Ends db pass steps text (Err (LogFull held)) = IsHeldBy db pass held
    × ((last : List Event) → Makes db.base pass.number pass.seen last (last_release (held_of held)) → Ran db.base last pass.number steps text true)
Ends db pass steps text (Err (NoMemory held)) = IsHeldBy db pass held
    × ((last : List Event) → Makes db.base pass.number pass.seen last (last_release (held_of held)) → IsBrokenOff db.base last pass.number steps)

-- the step of the line at this place
abbrev pub step_at : List ScriptLine → ℕ → Step
step_at lines at = option_map_or (λ line. line.step) (slice_get lines at) Collect

-- the step may stand in this place of a script
abbrev pub MayStand : Place → Step → Type 0
MayStand place step = (next : Place) × (behind place step ≡ Some next)
