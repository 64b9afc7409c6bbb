-- What a database is to its callers: the design that it was opened with, and the history of their calls.
use Rattle.std.specs.Prelude.{◌≡◌, ℕ, List}
use Rattle.std.specs.List.{All}
use Rattle.netlist_schema.specs.Design.{Design}
use Rattle.netlist_schema.specs.Valid.{IsValid}
use Rattle.edit_tx.specs.Facts.{PinFacts}
use Rattle.db_version.specs.Shot.{Shot}
use Rattle.db_spec.specs.declared.event.Event.{Event}
use Rattle.db_spec.specs.State.{State, IsLive, design}
use Rattle.db_spec.specs.History.{Legal, state_after}
use Rattle.db_spec.specs.Laws.{IsTypedCall}

pub record Story : Type 0 where
  -- version 0
  pub opening : Design
  -- the history
  pub events : List Event

-- what the events have come to
abbrev pub state : Story → State
state story = state_after story.opening story.events

-- the version of this number, as its readers see it
abbrev pub shot : State → ℕ → Shot
shot s v = record { version = v; design = design s v }

-- the history is legal from a valid design on, and names, widths and properties in its operations are as their types have them
pub record IsHistory (story : Story) : Type 0 where
  pub valid : IsValid story.opening
  pub legal : Legal story.opening story.events
  pub typed : All (λ event. IsTypedCall event.call) story.events

-- the pin is a live one of this database, and has the design of its version
pub record IsPinOf (story : Story) (pin : PinFacts) : Type 0 where
  pub live : IsLive (state story) pin.number pin.caller pin.version
  pub design : pin.design ≡ design (state story) pin.version
