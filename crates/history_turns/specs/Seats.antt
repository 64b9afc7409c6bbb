-- Where a caller stands, in the code and in its session.
use Rattle.std.specs.Prelude.{◌≡◌, ℕ, List, [], ◌++◌, ◌≤◌, None, drop, length}
use Rattle.db_spec.specs.History.{Legal, version_at}
use Rattle.db_spec.specs.declared.event.Event.{Event}
use Rattle.edit_tx.specs.Facts.{PinFacts}
use Rattle.db_core.specs.Story.{Story, IsPinOf}
use Rattle.script_spec.specs.Headline.{HasWalk}
use Rattle.script_spec.specs.Report.{transcript}
use Rattle.script_spec.specs.Session.{InBlock, Nothing, OffPin, OnPin, Word, exchanges}
use Rattle.script_spec.specs.declared.script.Step.{Step}
use Rattle.history_check_spec.specs.Left.{Again, Between, Leads, Over, Owes, OwesAgain, Phase}
use Rattle.history_turns.specs.declared.seats.At.{At}
use Rattle.history_turns.specs.declared.seats.At.TheVariants as at
use Rattle.history_turns.specs.declared.seats.Seat.{Seat}

abbrev pub phase_of : At → Phase
phase_of at.Free = Between Nothing
phase_of (at.OnPin pin) = Between (OnPin pin.number pin.version)
phase_of at.OffPin = Between OffPin
phase_of (at.InBlock block) = Between (InBlock block.tx.pin.number block.tx.pin.version block.retries block.tx.ops)
phase_of (at.Owes pin) = Owes pin.number
phase_of (at.OwesAgain block) = OwesAgain block.tx.pin.number block.retries block.tx.ops
phase_of (at.Again ops retries) = Again retries ops
phase_of (at.Over places) = Over places

-- the pin is a live one of this caller
pub record IsPinBy (story : Story) (caller : ℕ) (pin : PinFacts) : Type 0 where
  pub is_pin : IsPinOf story pin
  pub caller_is : pin.caller ≡ caller

-- the pin that is held there, if one is, is a live one of this caller
abbrev pub IsAt : Story → ℕ → At → Type 0
IsAt story caller at.Free = Unit {0}
IsAt story caller (at.OnPin pin) = IsPinBy story caller pin
IsAt story caller at.OffPin = Unit {0}
IsAt story caller (at.InBlock block) = IsPinBy story caller block.tx.pin
IsAt story caller (at.Owes pin) = IsPinBy story caller pin
IsAt story caller (at.OwesAgain block) = IsPinBy story caller block.tx.pin
IsAt story caller (at.Again ops retries) = Unit {0}
IsAt story caller (at.Over places) = Unit {0}

-- no transaction is held, and none is owed
abbrev pub IsFree : At → Type 0
IsFree at.Free = Unit {0}
IsFree (at.OnPin pin) = Unit {0}
IsFree at.OffPin = Unit {0}
IsFree other = ⊥

-- the caller stands between two lines, or a call is owed before the next one
abbrev pub IsBetween : At → Type 0
IsBetween at.Free = Unit {0}
IsBetween (at.OnPin pin) = Unit {0}
IsBetween at.OffPin = Unit {0}
IsBetween (at.InBlock block) = Unit {0}
IsBetween other = ⊥

abbrev pub IsOwed : At → Type 0
IsOwed (at.Owes pin) = Unit {0}
IsOwed (at.OwesAgain block) = Unit {0}
IsOwed (at.Again ops retries) = Unit {0}
IsOwed (at.Over places) = Unit {0}
IsOwed other = ⊥

-- what can be walked there has a top
abbrev pub HasPinnedTop : At → Type 0
HasPinnedTop (at.OnPin pin) = pin.design.top ≡ None → ⊥
HasPinnedTop other = Unit {0}

-- a caller before its first line
pub record IsOpen (seat : Seat) : Type 0 where
  pub at_is : seat.at ≡ at.Free
  pub line_is : seat.line ≡ 0
  pub said_is : seat.said.items ≡ []

-- there is a line of the script, or its end, and what can be walked there has a top where the script walks
pub record HasPlace (steps : List Step) (seat : Seat) : Type 0 where
  pub within : seat.line ≤ length steps
  pub top : HasWalk steps → HasPinnedTop seat.at

-- A caller has come so far in its script: its exchanges and what was said lead there, the text is what was said, however the history
-- goes on, and the pin that is held is a live one.
pub record Stands (story : Story) (caller : ℕ) (steps : List Step) (seat : Seat) : Type 0 where
  pub said : List Word
  pub leads : (more : List Event)
      → Leads (version_at story.opening (story.events ++ more)) (Between Nothing) steps (exchanges caller story.events) said (phase_of seat.at) (drop seat.line steps)
  pub written : (more : List Event) → Legal story.opening (story.events ++ more) → seat.said.items ≡ transcript story.opening (story.events ++ more) said
  pub pin : IsAt story caller seat.at
  pub within : seat.line ≤ length steps
