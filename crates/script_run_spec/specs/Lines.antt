-- What running one line of a script comes to.
use Rattle.std.specs.Prelude.{ℕ, ◌≤◌, List, [], ◌∷◌, ◌++◌}
use Rattle.netlist_schema.specs.Design.{Design}
use Rattle.netlist_schema.specs.Types.{Object}
use Rattle.edit_spec.specs.declared.ops.Op.{Op}
use Rattle.db_spec.specs.Answers.{HasPlaces}
use Rattle.db_spec.specs.History.{state_after, version_at}
use Rattle.db_spec.specs.State.{head}
use Rattle.db_spec.specs.declared.event.Answer.TheVariants as answer
use Rattle.db_spec.specs.declared.event.Call.TheVariants as call
use Rattle.db_spec.specs.declared.event.Event.{Event}
use Rattle.script_spec.specs.ScriptText.{Place, Free, Block, Holding}
use Rattle.script_spec.specs.Session.{Began, Conflict, Exchange, Goes, Held, Nothing, OnPin, OffPin, InBlock, Outcome, On, Stop, Told, Word, last_release, release, replied}
use Rattle.script_spec.specs.declared.script.Step.{Step}
use Rattle.script_run_spec.specs.Calls.{HoldsJust, Makes, Writes}

-- the place in the text, by what is held
abbrev pub place_of : Held → Place
place_of Nothing = Free
place_of (OnPin pin v) = Holding
place_of OffPin = Holding
place_of (InBlock pin v retries ops) = Block

-- no transaction is held, as where a collect stands
abbrev pub IsNoBlock : Held → Type 0
IsNoBlock Nothing = Unit {0}
IsNoBlock (OnPin pin v) = Unit {0}
IsNoBlock OffPin = Unit {0}
IsNoBlock (InBlock pin v retries ops) = ⊥

-- The line was run: it made its calls and said its words, and this is held then.
pub record GoesOn (d : Design) (caller : ℕ) (old new : List Event) (before text : List ℕ) (held : Held) (step : Step) (next : Held) : Type 0 where
  pub done : List Exchange
  pub words : List Word
  pub makes : Makes d caller old new done
  pub goes : (more : List Event) → Goes (version_at d (new ++ more)) held step done words (On next)
  pub writes : Writes d new before text words
  pub holds : HoldsJust d new caller next

-- The log was full for a call of the line, which had made these calls before: what is held then is still to be released, and with
-- that the session has ended.
pub record IsFilled (d : Design) (caller : ℕ) (old new : List Event) (before text : List ℕ) (held : Held) (step : Step) (next : Held) : Type 0 where
  pub done : List Exchange
  pub words : List Word
  pub places : ℕ
  pub makes : Makes d caller old new done
  pub goes : (more : List Event) → Goes (version_at d (new ++ more)) held step (done ++ last_release next) words (Stop places)
  pub writes : Writes d new before text words
  pub holds : HoldsJust d new caller next
  pub no_places : HasPlaces (state_after d new) places → ⊥

-- the line begins with these calls, and in some way goes on from there
abbrev pub Begins : (ℕ → Design) → Held → Step → List Exchange → Type 0
Begins versions held step done = (rest : List Exchange) × (words : List Word) × (outcome : Outcome) × Goes versions held step (done ++ rest) words outcome

-- The line was broken off behind some of its calls: what is held then is still to be released.
pub record IsBroken (d : Design) (caller : ℕ) (old new : List Event) (held : Held) (step : Step) (next : Held) : Type 0 where
  pub done : List Exchange
  pub makes : Makes d caller old new done
  pub begins : (more : List Event) → Begins (version_at d (new ++ more)) held step done
  pub holds : HoldsJust d new caller next

-- The commit of a block met a conflict, its pin was released, and the block was begun again on a new pin of a version that is there:
-- the operations have replies on that version.
pub record RunsAgain (d : Design) (caller : ℕ) (old new : List Event) (before text : List ℕ) (number v : ℕ) (ops : List Op) (next u : ℕ) : Type 0 where
  pub object : Object
  pub later : ℕ
  pub makes : Makes d caller old new (Told (call.Commit number ops) (answer.Conflict object later) ∷ release number ∷ Told call.Pin (answer.Pinned next u) ∷ [])
  pub there : u ≤ head (state_after d new)
  pub writes : Writes d new before text (Conflict object later ∷ Began u ∷ replied (version_at d new u) ops)
