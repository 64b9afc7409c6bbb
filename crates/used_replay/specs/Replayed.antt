-- The accepted commits of a history, done again.
use Rattle.std.specs.Prelude.{◌≡◌, List, [], ◌∷◌, ◌++◌}
use Rattle.netlist_schema.specs.Design.{Design}
use Rattle.edit_spec.specs.Step.{run}
use Rattle.edit_spec.specs.declared.ops.Op.{Op}
use Rattle.db_spec.specs.History.{state_after, version_at}
use Rattle.db_spec.specs.State.{head}
use Rattle.db_spec.specs.declared.event.Answer.{Answer}
use Rattle.db_spec.specs.declared.event.Answer.TheVariants.{Committed}
use Rattle.db_spec.specs.declared.event.Call.{Call}
use Rattle.db_spec.specs.declared.event.Call.TheVariants.{Commit}
use Rattle.db_spec.specs.declared.event.Event.{Event}

-- the operations of an accepted commit, and none of another call
abbrev pub accepted_in : Call → Answer → List Op
accepted_in (Commit number ops) (Committed version replies) = ops
accepted_in call answer = []

-- what a call with this answer does to a design
abbrev pub redone : Design → Call → Answer → Design
redone d call answer = (run d (accepted_in call answer)).design

-- the events, one after the other
abbrev pub replayed : Design → List Event → Design
replayed d [] = d
replayed d (event ∷ events) = replayed (redone d event.call event.answer) events

-- so the opening design comes to that of the last version
abbrev pub ReplayedIsHead : Type 0
ReplayedIsHead = (d : Design) (history : List Event) → replayed d history ≡ version_at d history (head (state_after d history))

-- the operations of all accepted commits, in order
abbrev pub accepted : List Event → List Op
accepted [] = []
accepted (event ∷ events) = accepted_in event.call event.answer ++ accepted events

-- so the events are one list of operations, run one after the other
abbrev pub ReplayedRuns : Type 0
ReplayedRuns = (d : Design) (history : List Event) → replayed d history ≡ (run d (accepted history)).design

-- a design partway in a list of operations: those before one of them are done, and no others
pub record IsPartway (before now : Design) (ops : List Op) : Type 0 where
  pub done : List Op
  pub next : Op
  pub rest : List Op
  pub parts : ops ≡ done ++ next ∷ rest
  pub design : now ≡ (run before done).design
