-- What the calls of one caller make of a history that goes on.
use Rattle.std.specs.Prelude.{◌≡◌, ℕ, ◌==◌, List, [], ◌∷◌, ◌++◌, filter}
use Rattle.netlist_schema.specs.Design.{Design}
use Rattle.db_spec.specs.History.{Legal, state_after}
use Rattle.db_spec.specs.State.{State, LivePin, live_pin}
use Rattle.db_spec.specs.declared.event.Event.{Event}
use Rattle.script_spec.specs.Report.{transcript}
use Rattle.script_spec.specs.Session.{Exchange, Held, Nothing, OnPin, OffPin, InBlock, Word, exchanges}

-- the history went on, still legal, and in what came the caller made just these calls and had these answers
pub record Makes (d : Design) (caller : ℕ) (old new : List Event) (done : List Exchange) : Type 0 where
  pub legal : Legal d new
  pub more : List Event
  pub on : new ≡ old ++ more
  pub own : exchanges caller more ≡ done

-- the live pins of a caller, in the order in which they were made
abbrev pub pins_of : ℕ → State → List LivePin
pins_of caller s = filter (λ pin. pin.caller == caller) s.pins

-- the pin that is held, as a live one
abbrev pub held_pins : ℕ → Held → List LivePin
held_pins caller Nothing = []
held_pins caller (OnPin pin v) = live_pin pin caller v ∷ []
held_pins caller OffPin = []
held_pins caller (InBlock pin v retries ops) = live_pin pin caller v ∷ []

-- the caller has no live pin but the one that is held
abbrev pub HoldsJust : Design → List Event → ℕ → Held → Type 0
HoldsJust d seen caller held = pins_of caller (state_after d seen) ≡ held_pins caller held

-- behind the text before stands what the words say, however the history goes on
abbrev pub Writes : Design → List Event → List ℕ → List ℕ → List Word → Type 0
Writes d seen before text words = (more : List Event) → Legal d (seen ++ more) → text ≡ before ++ transcript d (seen ++ more) words
