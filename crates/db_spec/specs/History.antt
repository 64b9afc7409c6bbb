-- Legal histories, the state after one, and its versions.
use Rattle.std.specs.Prelude.{ℕ, List, [], ◌∷◌}
use Rattle.netlist_schema.specs.Design.{Design}
use Rattle.db_spec.specs.declared.event.Event.{Event}
use Rattle.db_spec.specs.State.{State, opening, after, design}
use Rattle.db_spec.specs.Answers.{Admits}

-- the state after these events, from a state on
abbrev pub state_from : State → List Event → State
state_from s [] = s
state_from s (event ∷ events) = state_from (after s event) events

-- from a state on, each event may come in the state before it
abbrev pub IsLegalFrom : State → List Event → Type 0
IsLegalFrom s [] = Unit {0}
IsLegalFrom s (event ∷ events) = Admits s event × IsLegalFrom (after s event) events

-- the history is legal: from the opening on, each event has room, is its caller's, and has the answer of its call
abbrev pub Legal : Design → List Event → Type 0
Legal d events = IsLegalFrom (opening d) events

-- the last state of the history
abbrev pub state_after : Design → List Event → State
state_after d events = state_from (opening d) events

-- the design of version v in the last state
abbrev pub version_at : Design → List Event → ℕ → Design
version_at d events v = design (state_after d events) v
