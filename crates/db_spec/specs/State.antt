-- The state of a shared design: its versions, what its commits wrote, and its pins.
use Rattle.std.specs.Prelude.{ℕ, ◌+◌, ◌-◌, ◌==◌, ◌||◌, not, Bool, List, [], ◌∷◌, ◌++◌, length, filter, slice_index_or, Contains}
use Rattle.std.specs.List.{list_any}
use Rattle.netlist_schema.specs.Design.{Design}
use Rattle.netlist_schema.specs.Types.{Object}
use Rattle.edit_spec.specs.Needs.{Written}
use Rattle.edit_spec.specs.Step.{run}
use Rattle.edit_spec.specs.declared.ops.Op.{Op}
use Rattle.db_spec.specs.declared.event.Call.{Call}
use Rattle.db_spec.specs.declared.event.Call.TheVariants.{Release, Collect, Commit}
use Rattle.db_spec.specs.declared.event.Answer.{Answer}
use Rattle.db_spec.specs.declared.event.Answer.TheVariants.{Pinned, Released, Collected, Committed}
use Rattle.db_spec.specs.declared.event.Event.{Event}

-- a version: its design, and the operations of the commit that made it, none for version 0
pub record Version : Type 0 where
  pub design : Design
  pub made_by : List Op

-- a pin that is held: its number, the caller that holds it, and its version
pub record LivePin : Type 0 where
  pub number : ℕ
  pub caller : ℕ
  pub version : ℕ

-- what the events so far have come to
pub record State : Type 0 where
  -- the design of version 0, which no commit made
  pub first : Design
  -- versions 1 to the last one, each made by a commit, which goes by the number of its version
  pub commits : List Version
  -- the numbers of the kept versions, from the least on
  pub kept : List ℕ
  -- the live pins, in the order in which they were made
  pub pins : List LivePin
  -- the number of pins made
  pub made : ℕ
  -- the number of events
  pub events : ℕ

-- the state at the beginning: version 0, which is kept, and nothing else
abbrev pub opening : Design → State
opening d = record { first = d; commits = []; kept = 0 ∷ []; pins = []; made = 0; events = 0 }

-- the number of the last version
abbrev pub head : State → ℕ
head s = length s.commits

-- version 0, which no operations made
abbrev pub first_version : State → Version
first_version s = record { design = s.first; made_by = [] }

-- the version of this number
abbrev pub version : State → ℕ → Version
version s v = slice_index_or (first_version s ∷ s.commits) v (first_version s)

-- the design of the version of this number
abbrev pub design : State → ℕ → Design
design s v = (version s v).design

-- the object is in the written set of the commit of version w: its operations write it on the version before
abbrev pub IsWritten : State → ℕ → Object → Type 0
IsWritten s w object = Written (design s (w - 1)) (version s w).made_by object

-- the pin of this number, held by this caller on this version
abbrev pub live_pin : ℕ → ℕ → ℕ → LivePin
live_pin number caller v = record { number = number; caller = caller; version = v }

-- the pin of this number is live, the caller's, and on version v
abbrev pub IsLive : State → ℕ → ℕ → ℕ → Type 0
IsLive s number caller v = Contains s.pins (live_pin number caller v)

-- a live pin is on the version
abbrev pub is_pinned : State → ℕ → Bool
is_pinned s v = list_any (λ pin. pin.version == v) s.pins

-- a collect keeps the version: it is the last one, or a live pin is on it
abbrev pub stays : State → ℕ → Bool
stays s v = (v == head s) || is_pinned s v

-- ---- what the calls change

-- one more pin was made, and it is live
abbrev pub pinned : State → ℕ → ℕ → State
pinned s caller v = record s { pins = s.pins ++ live_pin s.made caller v ∷ []; made = s.made + 1 }

-- the pin is no longer live
abbrev pub released : State → ℕ → State
released s number = record s { pins = filter (λ pin. not (pin.number == number)) s.pins }

-- the kept versions are now those that stay
abbrev pub collected : State → State
collected s = record s { kept = filter (stays s) s.kept }

-- the version that a commit of these operations makes: they are run on the last one
abbrev pub next_version : State → List Op → Version
next_version s ops = record { design = (run (design s (head s)) ops).design; made_by = ops }

-- there is one more version, and it is kept
abbrev pub committed : State → List Op → State
committed s ops = record s { commits = s.commits ++ next_version s ops ∷ []; kept = s.kept ++ (head s + 1) ∷ [] }

-- what a call with this answer changes: nothing where it is refused
abbrev pub changed : State → ℕ → Call → Answer → State
changed s caller call (Pinned number v) = pinned s caller v
changed s caller (Release number) Released = released s number
changed s caller Collect (Collected dropped) = collected s
changed s caller (Commit number ops) (Committed v replies) = committed s ops
changed s caller call answer = s

-- the state after an event: what it changes, and one event more
abbrev pub after : State → Event → State
after s event = record (changed s event.caller event.call event.answer) { events = s.events + 1 }
