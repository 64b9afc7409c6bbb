-- Where a run stands.
use Rattle.std.specs.Prelude.{◌≡◌, ◌≢◌, ℕ, ◌+◌, ◌*◌, ◌≤◌, List, [], ◌∷◌, ◌++◌, None, map}
use Rattle.netlist_schema.specs.Design.{Design}
use Rattle.edit_rules_spec.specs.declared.reply.Reply.{Reply}
use Rattle.edit_spec.specs.declared.ops.Op.{Op}
use Rattle.edit_tx.specs.Facts.{PinFacts, TxFacts}
use Rattle.db_spec.specs.History.{version_at}
use Rattle.db_spec.specs.Laws.{asked}
use Rattle.db_spec.specs.State.{LivePin, head, live_pin}
use Rattle.db_spec.specs.declared.event.Answer.TheVariants.{Committed}
use Rattle.db_spec.specs.declared.event.Call.{Call}
use Rattle.db_spec.specs.declared.event.Call.TheVariants.{Pin, Release, Commit}
use Rattle.db_spec.specs.declared.event.Event.{Event}
use Rattle.db_core.specs.Calls.{Accepts, Adds, event_of}
use Rattle.db_core.specs.Story.{Story, state}
use Rattle.gen_spec.specs.Generated.{edit_at, generated}
use Rattle.gen_spec.specs.Calls.{IsGenerated, rounds}

-- the calls so far, the live pins, the number of pins made, the last version, and a bound on the number of events
pub record Stands (n : ℕ) (calls : List (ℕ × Call)) (pins : List LivePin) (made last most : ℕ) (story : Story) : Type 0 where
  pub opening : story.opening ≡ generated n
  pub in_order : map asked story.events ≡ calls
  pub live : (state story).pins ≡ pins
  pub made_are : (state story).made ≡ made
  pub last_is : head (state story) ≡ last
  pub few : (state story).events ≤ most

-- the pin of caller 1, on version 0
abbrev pub held : LivePin
held = live_pin 0 1 0

-- the calls up to the end of round k
abbrev pub calls_until : ℕ → ℕ → List (ℕ × Call)
calls_until n k = (1, Pin) ∷ rounds n k

-- round k is over, and only caller 1 holds a pin
abbrev pub StandsAfter : ℕ → ℕ → Story → Type 0
StandsAfter n k story = Stands n (calls_until n k) (held ∷ []) (k + 1) k (1 + 4 * k) story

-- the round behind round k, but for its collect
abbrev pub edited : ℕ → ℕ → List (ℕ × Call)
edited n k = (0, Pin) ∷ (0, Commit k (edit_at n k ∷ [])) ∷ (0, Release k) ∷ []

abbrev pub StandsEdited : ℕ → ℕ → Story → Type 0
StandsEdited n k story = Stands n (calls_until n k ++ edited n (k + 1)) (held ∷ []) (k + 2) (k + 1) (4 + 4 * k) story

-- the pin of this number, of this caller, on the version of this number, which is this design
pub record IsPin (number caller v : ℕ) (d : Design) (pin : PinFacts) : Type 0 where
  pub number_is : pin.number ≡ number
  pub caller_is : pin.caller ≡ caller
  pub version_is : pin.version ≡ v
  pub design_is : pin.design ≡ d

-- the transaction was accepted as some version, and its pin came back
abbrev pub IsAccepted : Story → Story → TxFacts → PinFacts → Type 0
IsAccepted old new tx back = (version : ℕ) × Accepts old new tx version back

-- an operation was committed on a pin, which came back
pub record HasCommitted (old new : Story) (pin : PinFacts) (op : Op) (back : PinFacts) : Type 0 where
  pub back_is : back ≡ pin
  pub version : ℕ
  pub replies : List Reply
  pub adds : Adds old new (event_of pin.caller (Commit pin.number (op ∷ [])) (Committed version replies))

-- all rounds are over, and both callers hold a pin: on the generated design and on the last version, which have tops
pub record HasRun (n : ℕ) (story : Story) (first last : PinFacts) : Type 0 where
  pub stands : Stands n (calls_until n n ++ (0, Pin) ∷ []) (held ∷ live_pin (n + 1) 0 n ∷ []) (n + 2) n (2 + 4 * n) story
  pub first_is : IsPin 0 1 0 (generated n) first
  pub last_is : IsPin (n + 1) 0 n (version_at (generated n) story.events n) last
  pub first_top : first.design.top ≢ None
  pub last_top : last.design.top ≢ None

-- both pins are released, and their designs are those of the first and the last version
pub record HasEnded (n : ℕ) (events : List Event) (first last : Design) : Type 0 where
  pub whole : IsGenerated n events
  pub first_is : first ≡ version_at (generated n) events 0
  pub last_is : last ≡ version_at (generated n) events n
