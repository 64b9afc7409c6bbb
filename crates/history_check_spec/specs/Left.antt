-- How far a session has come between two calls of its caller, and what is left of it then.
use Rattle.std.specs.Prelude.{◌≡◌, ℕ, ◌⊎◌, Bool, true, false, List, [], ◌∷◌, ◌++◌, Option, Some, None}
use Rattle.netlist_schema.specs.Design.{Design}
use Rattle.edit_spec.specs.declared.ops.Op.{Op}
use Rattle.db_spec.specs.declared.event.Answer.TheVariants as answer
use Rattle.db_spec.specs.declared.event.Call.{Call}
use Rattle.db_spec.specs.declared.event.Call.TheVariants as call
use Rattle.script_spec.specs.Session.{Began, Ending, Exchange, Full, Held, InBlock, LogFull, Nothing, OffPin, OnPin, Runs, Told, Word, release, replied}
use Rattle.script_spec.specs.declared.script.Step.{Step}
use Rattle.script_spec.specs.declared.script.Step.TheVariants as step

-- where a caller stands between two of its calls
pub data Phase : Type 0 where
  -- between two lines, with what is held then
  Between : Held → Phase
  -- a block has ended, and its pin is still to be released
  Owes : ℕ → Phase
  -- a commit met a conflict: its pin is still to be released, and then the block is run again, with so many retries left
  OwesAgain : ℕ → ℕ → List Op → Phase
  -- that pin is released, and the block is to be run again
  Again : ℕ → List Op → Phase
  -- the log was full for a call that wanted so many places, and no pin is held
  Over : ℕ → Phase

-- a block is run again on a new pin of the last version, unless the log is full for that
abbrev pub RunsAgain : (ℕ → Design) → ℕ → List Op → List Step → List Exchange → List Word → Ending → Type 0
RunsAgain versions retries ops lines done said ending =
    ((done ≡ []) × (said ≡ LogFull ∷ []) × (ending ≡ Full 2))
    ⊎ ((pin : ℕ) × (v : ℕ) × (rest : List Exchange) × (more : List Word) × (done ≡ Told call.Pin (answer.Pinned pin v) ∷ rest) × (said ≡ Began v ∷ replied (versions v) ops ++ more)
    × Runs versions (InBlock pin v retries ops) lines rest more ending)

-- From such a point, with these lines left, the session does exactly these exchanges, says these words and ends so. While a block is
-- under way, the line that commits it is left.
abbrev pub Left : (ℕ → Design) → Phase → List Step → List Exchange → List Word → Ending → Type 0
Left versions (Between held) lines done said ending = Runs versions held lines done said ending
Left versions (Owes pin) lines done said ending = (rest : List Exchange) × (done ≡ release pin ∷ rest) × Runs versions Nothing lines rest said ending
Left versions (OwesAgain pin retries ops) lines done said ending = (rest : List Exchange) × (done ≡ release pin ∷ rest) × RunsAgain versions retries ops lines rest said ending
Left versions (Again retries ops) lines done said ending = RunsAgain versions retries ops lines done said ending
Left versions (Over places) lines done said ending = (done ≡ []) × (said ≡ []) × (ending ≡ Full places)

-- These exchanges and words lead from one point to another: what goes on from there goes on so from here, and nothing else does.
pub record Leads (versions : ℕ → Design) (phase : Phase) (lines : List Step) (done : List Exchange) (words : List Word) (next : Phase) (left : List Step) : Type 0 where
  pub on : (others : List Exchange) (more : List Word) (ending : Ending) → Left versions next left others more ending → Left versions phase lines (done ++ others) (words ++ more) ending
  pub back : (others : List Exchange) (all : List Word) (ending : Ending) → Left versions phase lines (done ++ others) all ending
      → (more : List Word) × (all ≡ words ++ more) × Left versions next left others more ending

-- ---- the next call

abbrev pub is_release : Call → Bool
is_release (call.Release pin) = true
is_release other = false

-- the release of this pin, or the other call
abbrev pub release_or : Bool → ℕ → Call → Call
release_or true pin other = call.Release pin
release_or false pin other = other

-- The next call by the lines, where it is told whether it is a release: a line that may be refused by a full log makes its call, or
-- the held pin is released. Lines that make no call are passed over.
abbrev pub line_call : Bool → Held → List Step → Option Call
line_call r Nothing [] = None
line_call r (OnPin pin v) [] = Some (call.Release pin)
line_call r OffPin [] = None
line_call r (InBlock pin v retries ops) [] = Some (call.Release pin)
line_call r Nothing (step.Begin retries ∷ lines) = Some call.Pin
line_call r Nothing (step.Pin ∷ lines) = Some call.Pin
line_call r Nothing (step.PinAt v ∷ lines) = Some (call.PinAt v)
line_call r Nothing (step.Collect ∷ lines) = Some call.Collect
line_call r (OnPin pin v) (step.Walk limit ∷ lines) = line_call r (OnPin pin v) lines
line_call r (OnPin pin v) (step.Release ∷ lines) = Some (call.Release pin)
line_call r (OnPin pin v) (step.Collect ∷ lines) = Some (release_or r pin call.Collect)
line_call r OffPin (step.Walk limit ∷ lines) = line_call r OffPin lines
line_call r OffPin (step.Release ∷ lines) = line_call r Nothing lines
line_call r OffPin (step.Collect ∷ lines) = Some call.Collect
line_call r (InBlock pin v retries ops) (step.Run op ∷ lines) = line_call r (InBlock pin v retries (ops ++ op ∷ [])) lines
line_call r (InBlock pin v retries ops) (step.Commit ∷ lines) = Some (release_or r pin (call.Commit pin ops))
line_call r (InBlock pin v retries ops) (step.Abandon ∷ lines) = Some (call.Release pin)
line_call r held (step ∷ lines) = None

abbrev pub next_call : Bool → Phase → List Step → Option Call
next_call r (Between held) lines = line_call r held lines
next_call r (Owes pin) lines = Some (call.Release pin)
next_call r (OwesAgain pin retries ops) lines = Some (call.Release pin)
next_call r (Again retries ops) lines = Some call.Pin
next_call r (Over places) lines = None

-- ---- lines that make no call

-- a line at which the caller makes a call, or which can't stand there
abbrev pub IsLoud : Phase → Step → Type 0
IsLoud (Between (OnPin pin v)) (step.Walk limit) = ⊥
IsLoud (Between OffPin) (step.Walk limit) = ⊥
IsLoud (Between OffPin) step.Release = ⊥
IsLoud (Between (InBlock pin v retries ops)) (step.Run op) = ⊥
IsLoud phase step = Unit {0}

-- so is the next line, where there is one
abbrev pub AreLoud : Phase → List Step → Type 0
AreLoud phase [] = Unit {0}
AreLoud phase (step ∷ lines) = IsLoud phase step

-- ---- the end

-- without a call the session says these words and ends so, and in no other way
pub record EndsBy (versions : ℕ → Design) (phase : Phase) (lines : List Step) (words : List Word) (ending : Ending) : Type 0 where
  pub on : Left versions phase lines [] words ending
  pub back : (said : List Word) (last : Ending) → Left versions phase lines [] said last → (said ≡ words) × (last ≡ ending)

-- it does not end without a call
abbrev pub NoEnd : (ℕ → Design) → Phase → List Step → Type 0
NoEnd versions phase lines = (said : List Word) (last : Ending) → Left versions phase lines [] said last → ⊥
