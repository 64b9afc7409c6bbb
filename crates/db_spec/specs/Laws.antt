-- What holds of legal histories.
use Rattle.std.specs.Prelude.{◌≡◌, ℕ, ◌<◌, ◌≤◌, ◌+◌, List, [], ◌∷◌, ◌++◌, length, Contains, AllPairs}
use Rattle.std.specs.List.{All}
use Rattle.netlist_schema.specs.Design.{Design}
use Rattle.edit_rules_spec.specs.Objects.{Grown}
use Rattle.edit_spec.specs.Typed.{IsTypedOp}
use Rattle.db_spec.specs.declared.event.Call.{Call}
use Rattle.db_spec.specs.declared.event.Call.TheVariants.{Release, Commit}
use Rattle.db_spec.specs.declared.event.Answer.TheVariants.{Committed}
use Rattle.db_spec.specs.declared.event.Event.{Event}
use Rattle.edit_spec.specs.declared.ops.Op.{Op}
use Rattle.edit_rules_spec.specs.declared.reply.Reply.{Reply}
use Rattle.db_spec.specs.State.{State, LivePin, head}
use Rattle.db_spec.specs.Answers.{IsKept, most_events, places}
use Rattle.db_spec.specs.History.{state_after, version_at}

-- along a history that goes on, the places that are taken never fall and stay within the limit, and later versions are grown
pub record IsGrowing (d : Design) (events more : List Event) : Type 0 where
  pub never_falls : places (state_after d events) ≤ places (state_after d (events ++ more))
  pub within : places (state_after d (events ++ more)) ≤ most_events
  pub grown : (v w : ℕ) → v ≤ w → w ≤ head (state_after d events) → Grown (version_at d events v) (version_at d events w)

-- what holds of the numbers of each state that a legal history comes to
pub record IsSound (s : State) : Type 0 where
  -- each event makes at most one pin or version
  pub few_made : s.made ≤ s.events
  pub few_versions : head s ≤ s.events
  -- and each version beyond the first has its event
  pub few_kept : length s.kept ≤ s.events + 1
  -- half of the places, since each live pin has its event and a place for its release
  pub few_live : length s.pins ≤ 2097152
  -- each live pin was made, and no two have one number
  pub numbered : (pin : LivePin) → Contains s.pins pin → pin.number < s.made
  pub distinct : AllPairs (λ pin later. pin.number < later.number) s.pins
  -- the kept versions are there, each once, from the least on
  pub there : (v : ℕ) → IsKept s v → v ≤ head s
  pub ascending : AllPairs (λ v later. v < later) s.kept
  -- the last version is kept, and so is the version of each live pin
  pub head_kept : IsKept s (head s)
  pub head_last : (before : List ℕ) × (s.kept ≡ before ++ head s ∷ [])
  pub pinned_kept : (pin : LivePin) → Contains s.pins pin → IsKept s pin.version

-- the accepted commit of these operations by a caller
abbrev pub accepted : ℕ → ℕ → List Op → ℕ → List Reply → Event
accepted caller number ops version replies =
    record { caller = caller; call = Commit number ops; answer = Committed version replies }

-- the event is the caller's release of the pin
abbrev pub IsReleaseOf : ℕ → ℕ → Event → Type 0
IsReleaseOf caller number event = (event.caller ≡ caller) × (event.call ≡ Release number)

-- who called, and what
abbrev pub asked : Event → ℕ × Call
asked event = (event.caller, event.call)

-- what a call puts into a design: names are identifiers, widths are widths, and properties are typed
abbrev pub IsTypedCall : Call → Type 0
IsTypedCall (Commit number ops) = All IsTypedOp ops
IsTypedCall call = Unit {0}
