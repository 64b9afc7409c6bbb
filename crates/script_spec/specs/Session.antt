-- A session: what the lines of a script make of the events of one caller, and what they say.
use Rattle.std.specs.Prelude.{◌≡◌, ℕ, zero, suc, ◌==◌, ◌⊎◌, List, [], ◌∷◌, ◌++◌, Option, filter, map}
use Rattle.netlist_schema.specs.Design.{Design}
use Rattle.netlist_schema.specs.Types.{Object}
use Rattle.edit_spec.specs.Step.{run, step as stepped}
use Rattle.edit_spec.specs.declared.ops.Op.{Op}
use Rattle.edit_rules_spec.specs.declared.reply.Reply.{Reply}
use Rattle.db_spec.specs.declared.event.Answer.{Answer}
use Rattle.db_spec.specs.declared.event.Answer.TheVariants as answer
use Rattle.db_spec.specs.declared.event.Call.{Call}
use Rattle.db_spec.specs.declared.event.Call.TheVariants as call
use Rattle.db_spec.specs.declared.event.Event.{Event}
use Rattle.db_spec.specs.History.{version_at}
use Rattle.script_spec.specs.declared.script.Step.{Step}
use Rattle.script_spec.specs.declared.script.Step.TheVariants.{Begin, Run, Commit, Abandon, Pin, PinAt, Walk, Release, Collect}

-- what a session says
pub data Word : Type 0 where
  Began : ℕ → Word
  Replied : Reply → Word
  Committed : ℕ → Word
  Conflict : Object → ℕ → Word
  Abandoned : Word
  Pinned : ℕ → Word
  NoVersion : ℕ → Word
  Gone : ℕ → Word
  -- a walk of a version, and its limit
  Walked : ℕ → Option ℕ → Word
  Released : Word
  NoPin : Word
  Collected : ℕ → Word
  LogFull : Word

-- what a script holds between two lines
pub data Held : Type 0 where
  Nothing : Held
  -- a pin of this number, on this version
  OnPin : ℕ → ℕ → Held
  -- the pin that was wanted was refused
  OffPin : Held
  -- a transaction on a pin and its version, with the retries left and the operations so far
  InBlock : ℕ → ℕ → ℕ → List Op → Held

-- how a session ends: by the last line, or since the log was full for a call that wanted so many places
pub data Ending : Type 0 where
  Whole : Ending
  Full : ℕ → Ending

-- what a line leads to: the next line, with what is held then, or the end of the session
pub data Outcome : Type 0 where
  On : Held → Outcome
  Stop : ℕ → Outcome

-- a call and its answer
pub data Exchange : Type 0 where
  Told : Call → Answer → Exchange

-- the calls of one caller with their answers, in order
abbrev pub exchanges : ℕ → List Event → List Exchange
exchanges caller events = map (λ event. Told event.call event.answer) (filter (λ event. event.caller == caller) events)

-- the release of a pin, and of the pin that is held
abbrev pub release : ℕ → Exchange
release pin = Told (call.Release pin) answer.Released

abbrev pub last_release : Held → List Exchange
last_release (OnPin pin v) = release pin ∷ []
last_release (InBlock pin v retries ops) = release pin ∷ []
last_release held = []

-- The call that is wanted next was refused, since the log was full for the places that it wants: only this is left, which is the
-- release of a held pin or nothing, and the session ends.
abbrev pub Refused : List Exchange → ℕ → List Exchange → List Word → Outcome → Type 0
Refused left places done said outcome = (done ≡ left) × (said ≡ LogFull ∷ []) × (outcome ≡ Stop places)

-- exactly these exchanges are done, these words said, and this is held then
abbrev pub Does : List Exchange → List Word → Held → List Exchange → List Word → Outcome → Type 0
Does exchanges words held done said outcome = (done ≡ exchanges) × (said ≡ words) × (outcome ≡ On held)

-- the reply to an operation behind others on a design
abbrev pub reply_behind : Design → List Op → Op → Reply
reply_behind d ops op = (stepped (run d ops).design op).reply

-- the words for the replies to the operations of a block that is run again
abbrev pub replied : Design → List Op → List Word
replied d ops = map Replied (run d ops).replies

-- ---- a block that commits

-- the commit was accepted
abbrev pub Accepts : List Op → ℕ → List Exchange → List Word → Outcome → Type 0
Accepts ops pin done said outcome = (w : ℕ) × (replies : List Reply)
    × Does (Told (call.Commit pin ops) (answer.Committed w replies) ∷ release pin ∷ []) (Committed w ∷ []) Nothing done said outcome

-- the commit was refused, and no retries are left
abbrev pub GivesUp : List Op → ℕ → List Exchange → List Word → Outcome → Type 0
GivesUp ops pin done said outcome = (object : Object) × (w : ℕ)
    × Does (Told (call.Commit pin ops) (answer.Conflict object w) ∷ release pin ∷ []) (Conflict object w ∷ []) Nothing done said outcome

-- the commit was refused, the pin is released, and then comes this
abbrev pub Retries : List Op → ℕ → List Exchange → List Word → (List Exchange → List Word → Type 0) → Type 0
Retries ops pin done said Then = (object : Object) × (w : ℕ) × (rest : List Exchange) × (more : List Word)
    × (done ≡ Told (call.Commit pin ops) (answer.Conflict object w) ∷ release pin ∷ rest) × (said ≡ Conflict object w ∷ more) × Then rest more

-- the last version is pinned, the block begins on it and its operations are replied, and then comes this
abbrev pub BeginsAgain : (ℕ → Design) → List Op → List Exchange → List Word → (ℕ → List Exchange → List Word → Type 0) → Type 0
BeginsAgain versions ops done said Then = (pin : ℕ) × (v : ℕ) × (rest : List Exchange) × (more : List Word)
    × (done ≡ Told call.Pin (answer.Pinned pin v) ∷ rest) × (said ≡ Began v ∷ replied (versions v) ops ++ more) × Then pin rest more

-- a block with these operations commits on this pin, and after a conflict is run again while retries are left
abbrev pub Commits : (ℕ → Design) → List Op → ℕ → ℕ → List Exchange → List Word → Outcome → Type 0
Commits versions ops zero pin done said outcome =
    Refused (release pin ∷ []) 1 done said outcome ⊎ (Accepts ops pin done said outcome ⊎ GivesUp ops pin done said outcome)
Commits versions ops (suc retries) pin done said outcome =
    Refused (release pin ∷ []) 1 done said outcome ⊎ (Accepts ops pin done said outcome
    ⊎ Retries ops pin done said (λ rest more. Refused [] 2 rest more outcome
    ⊎ BeginsAgain versions ops rest more (λ next others words. Commits versions ops retries next others words outcome)))

-- ---- one line

-- from what is held, the line does these exchanges, says these words and leads to this
abbrev pub Goes : (ℕ → Design) → Held → Step → List Exchange → List Word → Outcome → Type 0
-- a transaction begins with a pin of the last version
Goes versions Nothing (Begin retries) done said outcome = Refused [] 2 done said outcome
    ⊎ ((pin : ℕ) × (v : ℕ) × Does (Told call.Pin (answer.Pinned pin v) ∷ []) (Began v ∷ []) (InBlock pin v retries []) done said outcome)
-- an operation is run on the pinned version, behind those before
Goes versions (InBlock pin v retries ops) (Run op) done said outcome =
    Does [] (Replied (reply_behind (versions v) ops op) ∷ []) (InBlock pin v retries (ops ++ op ∷ [])) done said outcome
Goes versions (InBlock pin v retries ops) Commit done said outcome = Commits versions ops retries pin done said outcome
Goes versions (InBlock pin v retries ops) Abandon done said outcome = Does (release pin ∷ []) (Abandoned ∷ []) Nothing done said outcome
Goes versions Nothing Pin done said outcome = Refused [] 2 done said outcome
    ⊎ ((pin : ℕ) × (v : ℕ) × Does (Told call.Pin (answer.Pinned pin v) ∷ []) (Pinned v ∷ []) (OnPin pin v) done said outcome)
-- a wanted version is pinned, or there is none of this number, or it is kept no longer
Goes versions Nothing (PinAt wanted) done said outcome = Refused [] 2 done said outcome
    ⊎ (((pin : ℕ) × (v : ℕ) × Does (Told (call.PinAt wanted) (answer.Pinned pin v) ∷ []) (Pinned v ∷ []) (OnPin pin v) done said outcome)
    ⊎ (((last : ℕ) × Does (Told (call.PinAt wanted) (answer.NoVersion last) ∷ []) (NoVersion last ∷ []) OffPin done said outcome)
    ⊎ ((least : ℕ) × Does (Told (call.PinAt wanted) (answer.Gone least) ∷ []) (Gone least ∷ []) OffPin done said outcome)))
Goes versions (OnPin pin v) (Walk limit) done said outcome = Does [] (Walked v limit ∷ []) (OnPin pin v) done said outcome
Goes versions (OnPin pin v) Release done said outcome = Does (release pin ∷ []) (Released ∷ []) Nothing done said outcome
-- after a refused pin these make no call
Goes versions OffPin (Walk limit) done said outcome = Does [] (NoPin ∷ []) OffPin done said outcome
Goes versions OffPin Release done said outcome = Does [] (NoPin ∷ []) Nothing done said outcome
-- no collect stands in a transaction
Goes versions (InBlock pin v retries ops) Collect done said outcome = ⊥
Goes versions held Collect done said outcome = Refused (last_release held) 1 done said outcome
    ⊎ ((count : ℕ) × Does (Told call.Collect (answer.Collected count) ∷ []) (Collected count ∷ []) held done said outcome)
-- no other line stands there
Goes versions held step done said outcome = ⊥

-- ---- the lines of a script

-- from what is held, the lines do exactly these exchanges, say these words and end so; at the end a held pin is released
abbrev pub Runs : (ℕ → Design) → Held → List Step → List Exchange → List Word → Ending → Type 0
Runs versions held [] done said ending = (done ≡ last_release held) × (said ≡ []) × (ending ≡ Whole)
Runs versions held (step ∷ steps) done said ending =
    ((places : ℕ) × Goes versions held step done said (Stop places) × (ending ≡ Full places))
    ⊎ ((next : Held) × (first : List Exchange) × (others : List Exchange) × (words : List Word) × (more : List Word)
    × (done ≡ first ++ others) × (said ≡ words ++ more) × Goes versions held step first words (On next) × Runs versions next steps others more ending)

-- The script of this caller fits its events in the history, says these words and ends so.
abbrev pub Session : Design → List Event → ℕ → List Step → List Word → Ending → Type 0
Session d history caller steps said ending = Runs (version_at d history) Nothing steps (exchanges caller history) said ending
