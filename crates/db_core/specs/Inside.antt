-- What the fields of a database stand for.
use Rattle.std.specs.Prelude.{◌≡◌, ℕ, ◌+◌, ◌≤◌, Option, Some, None, length, map, vec_capacity}
use Rattle.netlist_schema.specs.Types.{Object}
use Rattle.pin_registry.specs.Registry.{LivePin as HeldPin, live_pin as held_pin}
use Rattle.conflict_check.specs.Commits.{Commits, last_commit}
use Rattle.db_spec.specs.State.{State, LivePin, head, IsWritten}
use Rattle.db_core.specs.Story.{Story, IsHistory, shot, state}
use Rattle.db_core.specs.declared.database.Core.TheInside.{Inside}

abbrev pub story_of : Inside → Story
story_of c = record { opening = c.opening.design; events = c.log.items }

-- the last commit that wrote the object, where one did
abbrev pub IsLastWrite : State → Object → Option ℕ → Type 0
IsLastWrite s o None = (w : ℕ) → ¬ IsWritten s w o
IsLastWrite s o (Some last) = IsWritten s last o × ((w : ℕ) → IsWritten s w o → w ≤ last)

-- each object has its last commit
abbrev pub IsStamped : State → Commits → Type 0
IsStamped s stamps = (o : Object) → IsLastWrite s o (last_commit stamps o)

-- a live pin, as the registry has it
abbrev pub held : LivePin → HeldPin
held pin = held_pin pin.number pin.version

-- the fields are those of the state
pub record Stands (c : Inside) (s : State) : Type 0 where
  pub versions : c.versions.items ≡ map (shot s) s.kept
  pub head_is : c.head ≡ shot s (head s)
  pub made : c.pins.made ≡ s.made
  pub live : c.pins.live ≡ map held s.pins
  pub stamped : IsStamped s c.stamps
  -- the release of each live pin has its place
  pub places : length c.log.items + length s.pins ≤ vec_capacity c.log

pub record IsCore (c : Inside) : Type 0 where
  -- the opening design goes by the number of version 0
  pub first : c.opening.version ≡ 0
  pub history : IsHistory (story_of c)
  pub stands : Stands c (state (story_of c))
