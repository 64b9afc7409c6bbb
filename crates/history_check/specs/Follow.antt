-- How far a replay has come, and what a report that is printed so goes on with.
use Rattle.std.specs.Prelude.{◌≡◌, ◌<◌, ◌≤◌, ◌⊎◌, ◌+◌, ◌-◌, ℕ, Bool, true, false, Some, List, [], ◌∷◌, ◌++◌, codes, drop, length, set, slice_index_or}
use Rattle.std.specs.List.{All}
use Rattle.netlist_schema.specs.Design.{Design}
use Rattle.db_spec.specs.History.{version_at}
use Rattle.db_spec.specs.declared.event.Answer.{Answer}
use Rattle.db_spec.specs.declared.event.Call.{Call}
use Rattle.db_spec.specs.declared.event.Event.{Event}
use Rattle.db_core.specs.Calls.{Adds, event_of}
use Rattle.db_core.specs.Story.{Story}
use Rattle.script_spec.specs.Report.{HasFilled, Prints, SessionResult, head_design, transcript}
use Rattle.script_spec.specs.Session.{Ending, Full, LogFull, Nothing, Session, Whole, Word, exchanges}
use Rattle.script_spec.specs.Texts.{event_texts, line}
use Rattle.script_spec.specs.declared.script.Step.{Step}
use Rattle.history_check_spec.specs.Heads.{behind_events}
use Rattle.history_check_spec.specs.Left.{Between, EndsBy, Leads, NoEnd, Phase, next_call}
use Rattle.history_turns.specs.Moves.{IsStuck, SaysTooMuch}
use Rattle.history_turns.specs.Seats.{Stands, phase_of}
use Rattle.history_check.specs.declared.ends.End.{End}
use Rattle.history_check.specs.declared.ends.End.TheVariants as end
use Rattle.report_parts.specs.declared.heads.Next.{Next}
use Rattle.history_turns.specs.declared.seats.At.TheVariants as at
use Rattle.history_turns.specs.declared.seats.Seat.{Seat}

-- ---- the replay

-- each caller stands where its script and the history bring it
pub record AllStand (story : Story) (scripts : List (List Step)) (seats : List Seat) : Type 0 where
  pub many : length seats ≡ length scripts
  pub each : (k : ℕ) (d : Seat) → k < length scripts → Stands story k (slice_index_or scripts k []) (slice_index_or seats k d)
  pub callers : All (λ event. event.caller < length scripts) story.events

-- each history that prints the report goes on from these events, and the rest of the text is what it prints of that
abbrev pub IsRestOf : Story → List (List Step) → List ℕ → List ℕ → Type 0
IsRestOf story scripts report rest = (history : List Event) (prints : Prints story.opening scripts report history)
    → (more : List Event) × (history ≡ story.events ++ more) × (rest ≡ event_texts (head_design story.opening history) (length story.events) more ++ behind_events story.opening history prints.results)

-- the report is `history`, these events, and the rest behind them
abbrev pub IsBehind : Story → List ℕ → List ℕ → Type 0
IsBehind story report rest = report ≡ line (codes "history" ∷ []) ++ (event_texts (head_design story.opening story.events) 0 story.events ++ rest)

-- where a caller stands, by its script and the history so far
pub record Reached (story : Story) (steps : List Step) (caller : ℕ) : Type 0 where
  pub phase : Phase
  pub lines : List Step
  pub said : List Word
  pub leads : (more : List Event) → Leads (version_at story.opening (story.events ++ more)) (Between Nothing) steps (exchanges caller story.events) said phase lines

-- the next call of the caller, a release or not as its head says, was made, and all stand where that brings them
pub record IsCalled (old new : Story) (scripts : List (List Step)) (next : Next) (seats : List Seat) : Type 0 where
  pub reached : Reached old (slice_index_or scripts next.caller []) next.caller
  pub call : Call
  pub answer : Answer
  pub wanted : next_call next.release reached.phase reached.lines ≡ Some call
  pub adds : Adds old new (event_of next.caller call answer)
  pub stand : AllStand new scripts seats

-- there is no such call, or no room for it
pub record IsStopped (old : Story) (scripts : List (List Step)) (next : Next) : Type 0 where
  pub reached : Reached old (slice_index_or scripts next.caller []) next.caller
  pub stuck : IsStuck old next.release reached.phase reached.lines

-- how many bytes the callers have said
abbrev pub said_by : List Seat → ℕ
said_by [] = 0
said_by (seat ∷ seats) = length seat.said.items + said_by seats

-- Before its next call a caller says more bytes than the others leave of so many. A seat at which nothing was said stands in place of its own
-- among them.
pub record IsTooLong (old : Story) (scripts : List (List Step)) (seats : List Seat) (most : ℕ) : Type 0 where
  pub caller : ℕ
  pub known : caller < length scripts
  pub seat : Seat
  pub stands : Stands old caller (slice_index_or scripts caller []) seat
  pub fresh : Seat
  pub fresh_is : fresh.said.items ≡ []
  pub says : SaysTooMuch old (phase_of seat.at) (drop seat.line (slice_index_or scripts caller [])) seat.said.items (most - said_by (set seats caller fresh))

-- what a call came to, where the callers may say so many bytes together: it was made, or there is none, or no room for it, or too much is said
abbrev pub CallComes : Story → Story → List (List Step) → Next → ℕ → List Seat → List Seat → Bool → Type 0
CallComes old new scripts next most before seats true = IsCalled old new scripts next seats
CallComes old new scripts next most before seats false = IsStopped old scripts next ⊎ IsTooLong old scripts before most

-- ---- the ends of the scripts

-- how a session ends without a call
abbrev pub IsEnd : Phase → List Step → End → Type 0
IsEnd phase lines end.Whole = (versions : ℕ → Design) → EndsBy versions phase lines [] Whole
IsEnd phase lines (end.Full places) = (versions : ℕ → Design) → EndsBy versions phase lines (LogFull ∷ []) (Full places)
IsEnd phase lines (end.Over places) = (versions : ℕ → Design) → EndsBy versions phase lines [] (Full places)
IsEnd phase lines end.Never = (versions : ℕ → Design) → NoEnd versions phase lines

-- the script fits its caller's events, the text is its transcript, and the log was full where it says so
pub record Ends (story : Story) (caller : ℕ) (steps : List Step) (text : List ℕ) : Type 0 where
  pub came : SessionResult
  pub session : Session story.opening story.events caller steps came.said came.ending
  pub filled : HasFilled story.events came.ending
  pub text_is : text ≡ transcript story.opening story.events came.said

-- it does not, with a transcript of at most so many bytes
abbrev pub EndsNever : Story → ℕ → List Step → ℕ → Type 0
EndsNever story caller steps most = (said : List Word) (ending : Ending) → Session story.opening story.events caller steps said ending → HasFilled story.events ending
    → ¬ (length (transcript story.opening story.events said) ≤ most)

-- each script ends so, over the texts; or some does not
abbrev pub AllEnd : Story → ℕ → List (List Step) → List (List ℕ) → Type 0
AllEnd story caller [] [] = Unit {0}
AllEnd story caller (steps ∷ scripts) (text ∷ texts) = Ends story caller steps text × AllEnd story (caller + 1) scripts texts
AllEnd story caller scripts texts = ⊥

pub record SomeNever (story : Story) (scripts : List (List Step)) (most : ℕ) : Type 0 where
  pub caller : ℕ
  pub known : caller < length scripts
  pub never : EndsNever story caller (slice_index_or scripts caller []) most
