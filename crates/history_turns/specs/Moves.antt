-- What one call of a caller comes to.
use Rattle.std.specs.Prelude.{◌≡◌, ◌≤◌, ◌<◌, ◌⊎◌, ◌+◌, ℕ, Bool, Option, Some, None, List, [], ◌∷◌, ◌++◌, codes, drop, length}
use Rattle.std.specs.List.{flat_map}
use Rattle.edit_rules_spec.specs.declared.reply.Reply.{Reply}
use Rattle.edit_tx.specs.Facts.{PinFacts}
use Rattle.db_spec.specs.Answers.{HasRoom}
use Rattle.db_spec.specs.History.{Legal, version_at}
use Rattle.db_spec.specs.declared.event.Answer.{Answer}
use Rattle.db_spec.specs.declared.event.Answer.TheVariants as answer
use Rattle.db_spec.specs.declared.event.Call.{Call}
use Rattle.db_spec.specs.declared.event.Call.TheVariants as call
use Rattle.db_spec.specs.declared.event.Event.{Event}
use Rattle.db_core.specs.Calls.{Adds, event_of}
use Rattle.db_core.specs.Story.{Story, state}
use Rattle.script_spec.specs.Report.{transcript}
use Rattle.script_spec.specs.Session.{Told, Word}
use Rattle.script_spec.specs.Texts.{line, reply_text}
use Rattle.script_spec.specs.declared.script.Step.{Step}
use Rattle.script_run_spec.specs.Calls.{Writes}
use Rattle.history_check_spec.specs.Left.{AreLoud, IsLoud, Leads, Phase, next_call}
use Rattle.history_turns.specs.declared.quiet.Quiet.{Quiet}
use Rattle.history_turns.specs.declared.quiet.Quiet.TheVariants as quiet
use Rattle.history_turns.specs.declared.seats.At.{At}
use Rattle.history_turns.specs.declared.seats.At.TheVariants as at
use Rattle.history_turns.specs.declared.seats.Seat.{Seat}
use Rattle.history_turns.specs.Seats.{HasPinnedTop, IsAt, phase_of}

-- The next call of the caller, a release or not as is asked, was made and has its answer; what it leads to is said.
pub record Moves (old new : Story) (caller : ℕ) (r : Bool) (phase : Phase) (lines : List Step) (before text : List ℕ) (next : Phase) (left : List Step) : Type 0 where
  pub call : Call
  pub answer : Answer
  pub adds : Adds old new (event_of caller call answer)
  pub wanted : next_call r phase lines ≡ Some call
  pub words : List Word
  pub leads : (more : List Event) → Leads (version_at new.opening (new.events ++ more)) phase lines (Told call answer ∷ []) words next left
  pub writes : Writes new.opening new.events before text words

-- there is no next call, or no room for it
abbrev pub IsStuck : Story → Bool → Phase → List Step → Type 0
IsStuck old r phase lines = (call : Call) → next_call r phase lines ≡ Some call → ¬ HasRoom (state old) call

-- what is said without a call, behind what was said before, is more than so many bytes, however the history goes on
pub record SaysTooMuch (story : Story) (phase : Phase) (lines : List Step) (before : List ℕ) (most : ℕ) : Type 0 where
  pub words : List Word
  pub next : Phase
  pub left : List Step
  pub leads : (more : List Event) → Leads (version_at story.opening (story.events ++ more)) phase lines [] words next left
  pub long : (more : List Event) → Legal story.opening (story.events ++ more) → most < length (before ++ transcript story.opening (story.events ++ more) words)

-- there is no next call, or no room for it, or more than so many bytes are said before it
abbrev pub IsHalted : Story → Bool → Phase → List Step → List ℕ → ℕ → Type 0
IsHalted old r phase lines before most = IsStuck old r phase lines ⊎ SaysTooMuch old phase lines before most

-- behind a call of a line, that line is left where its transaction is to be run again
abbrev pub left_by : At → Step → List Step → List Step
left_by (at.OwesAgain block) step lines = step ∷ lines
left_by other step lines = lines

-- a call of a line was made
pub record Called (old new : Story) (caller : ℕ) (r : Bool) (phase : Phase) (step : Step) (before text : List ℕ) (next : At) : Type 0 where
  pub moves : (lines : List Step) → Moves old new caller r phase (step ∷ lines) before text (phase_of next) (left_by next step lines)
  pub pin : IsAt new caller next

-- what a line came to: its call was made, or there is none, or no room
abbrev pub Comes : Story → Story → ℕ → Bool → Phase → Step → List ℕ → List ℕ → Option At → Type 0
Comes old new caller r phase step before text (Some next) = Called old new caller r phase step before text next
Comes old new caller r phase step before text None = (lines : List Step) → IsStuck old r phase (step ∷ lines)

-- a call was made, and the lines stay
pub record Owed (old new : Story) (caller : ℕ) (r : Bool) (phase : Phase) (lines : List Step) (before text : List ℕ) (next : At) : Type 0 where
  pub moves : Moves old new caller r phase lines before text (phase_of next) lines
  pub pin : IsAt new caller next

-- what came where the lines stay
abbrev pub ComesThere : Story → Story → ℕ → Bool → Phase → List Step → List ℕ → List ℕ → Option At → Type 0
ComesThere old new caller r phase lines before text (Some next) = Owed old new caller r phase lines before text next
ComesThere old new caller r phase lines before text None = IsStuck old r phase lines

-- the caller of a seat made its next call, and has a seat behind it
pub record Turned (old new : Story) (caller : ℕ) (r : Bool) (steps : List Step) (seat next : Seat) : Type 0 where
  pub moves : Moves old new caller r (phase_of seat.at) (drop seat.line steps) seat.said.items next.said.items (phase_of next.at) (drop next.line steps)
  pub pin : IsAt new caller next.at
  pub within : next.line ≤ length steps

-- ---- lines that make no call

-- what was said leads on without a call
pub record Passes (story : Story) (phase : Phase) (lines : List Step) (before text : List ℕ) (next : Phase) (left : List Step) : Type 0 where
  pub words : List Word
  pub calls : (r : Bool) → next_call r phase lines ≡ next_call r next left
  pub leads : (more : List Event) → Leads (version_at story.opening (story.events ++ more)) phase lines [] words next left
  pub writes : Writes story.opening story.events before text words

-- the line was passed over
pub record Passed (at : At) (step : Step) (before text : List ℕ) (next : At) : Type 0 where
  pub passes : (story : Story) (caller : ℕ) (lines : List Step) → Legal story.opening story.events → IsAt story caller at → Passes story (phase_of at) (step ∷ lines) before text (phase_of next) lines
  pub pin : (story : Story) (caller : ℕ) → IsAt story caller at → IsAt story caller next
  pub top : HasPinnedTop at → HasPinnedTop next

-- what a line came to that may make no call
abbrev pub QuietBy : At → Step → List ℕ → ℕ → List ℕ → Quiet → Type 0
QuietBy at step before most text (quiet.Passed next) = Passed at step before text next
QuietBy at step before most text (quiet.Calls same) = (same ≡ at) × IsLoud (phase_of at) step × (text ≡ before)
QuietBy at step before most text quiet.TooMuch = (story : Story) (caller : ℕ) (lines : List Step) → Legal story.opening story.events → IsAt story caller at → SaysTooMuch story (phase_of at) (step ∷ lines) before most

-- the lines from the first one on were passed over, up to the next one that calls, or to the end
pub record HasPassed (at : At) (steps : List Step) (first : ℕ) (before text : List ℕ) (next : At) (line : ℕ) : Type 0 where
  pub passes : (story : Story) (caller : ℕ) → Legal story.opening story.events → IsAt story caller at → Passes story (phase_of at) (drop first steps) before text (phase_of next) (drop line steps)
  pub pin : (story : Story) (caller : ℕ) → IsAt story caller at → IsAt story caller next
  pub within : line ≤ length steps
  pub loud : AreLoud (phase_of next) (drop line steps)

-- the lines from the first one on say too much before the next call
abbrev pub PassesTooMuch : At → List Step → ℕ → List ℕ → ℕ → Type 0
PassesTooMuch at steps first before most = (story : Story) (caller : ℕ) → Legal story.opening story.events → IsAt story caller at → SaysTooMuch story (phase_of at) (drop first steps) before most

-- ---- blocks

-- replies, each in a line
abbrev pub reply_lines : List Reply → List ℕ
reply_lines replies = flat_map (λ reply. line (reply_text reply ∷ [])) replies

-- a script whose call was refused by a full log ended, and its pin was released
pub record IsCutOff (old new : Story) (pin : PinFacts) (before text : List ℕ) (next : At) : Type 0 where
  pub over : next ≡ at.Over 1
  pub adds : Adds old new (event_of pin.caller (call.Release pin.number) answer.Released)
  pub said : text ≡ before ++ line (codes "log-full" ∷ [])
