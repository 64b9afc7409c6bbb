-- Which calls have room, and which answer a call has in a state.
use Rattle.std.specs.Prelude.{◌≡◌, ℕ, ◌+◌, ◌<◌, ◌≤◌, List, length, filter, not, Contains, IsTrue}
use Rattle.std.specs.Ordering.{is_le}
use Rattle.netlist_schema.specs.Order.{object_cmp}
use Rattle.netlist_schema.specs.Types.{Object}
use Rattle.netlist_schema.specs.declared.limits.TheConstants.{MOST_EVENTS}
use Rattle.edit_spec.specs.Needs.{Reads}
use Rattle.edit_spec.specs.Step.{run}
use Rattle.edit_spec.specs.declared.ops.Op.{Op}
use Rattle.db_spec.specs.declared.event.Call.{Call}
use Rattle.db_spec.specs.declared.event.Call.TheVariants.{Pin, PinAt, Release, Collect, Commit}
use Rattle.db_spec.specs.declared.event.Answer.{Answer}
use Rattle.db_spec.specs.declared.event.Answer.TheVariants.{Pinned, NoVersion, Gone, Released, Collected, Committed, Conflict}
use Rattle.db_spec.specs.declared.event.Event.{Event}
use Rattle.db_spec.specs.State.{State, head, design, IsWritten, IsLive, stays}

-- the greatest number of events
abbrev pub most_events : ℕ
most_events = MOST_EVENTS

-- the places of the history that are taken: one by each event, and one for the release of each live pin
abbrev pub places : State → ℕ
places s = s.events + length s.pins

-- this many more places are free
abbrev pub HasPlaces : State → ℕ → Type 0
HasPlaces s more = places s + more ≤ most_events

-- there is room for the call: a pin takes a place for its release as well, and a release has its place
abbrev pub HasRoom : State → Call → Type 0
HasRoom s Pin = HasPlaces s 2
HasRoom s (PinAt v) = HasPlaces s 2
HasRoom s (Release number) = Unit {0}
HasRoom s Collect = HasPlaces s 1
HasRoom s (Commit number ops) = HasPlaces s 1

-- the pin is live and the caller's
abbrev pub HoldsPin : State → ℕ → ℕ → Type 0
HoldsPin s caller number = (v : ℕ) × IsLive s number caller v

-- the pin that the call names, if it names one, is live and the caller's
abbrev pub IsCallers : State → ℕ → Call → Type 0
IsCallers s caller (Release number) = HoldsPin s caller number
IsCallers s caller (Commit number ops) = HoldsPin s caller number
IsCallers s caller call = Unit {0}

-- the operations read the object on version v, and the commit of a later version w wrote it
pub record Clashes (s : State) (v : ℕ) (ops : List Op) (object : Object) (w : ℕ) : Type 0 where
  pub read : Reads (design s v) ops object
  pub later : v < w
  pub there : w ≤ head s
  pub written : IsWritten s w object

-- the object is the least that clashes, and w is the greatest commit with which it does
pub record IsConflict (s : State) (v : ℕ) (ops : List Op) (object : Object) (w : ℕ) : Type 0 where
  pub clashes : Clashes s v ops object w
  pub least : (other : Object) (u : ℕ) → Clashes s v ops other u → IsTrue (is_le (object_cmp object other))
  pub greatest : (u : ℕ) → Clashes s v ops object u → u ≤ w

-- no object clashes
abbrev pub HasNoConflict : State → ℕ → List Op → Type 0
HasNoConflict s v ops = (object : Object) (w : ℕ) → ¬ Clashes s v ops object w

-- the version of this number is kept
abbrev pub IsKept : State → ℕ → Type 0
IsKept s v = Contains s.kept v

-- v is the least kept version
pub record IsLeastKept (s : State) (v : ℕ) : Type 0 where
  pub kept : IsKept s v
  pub least : (u : ℕ) → IsKept s u → v ≤ u

-- the number of kept versions that a collect drops
abbrev pub dropped : State → ℕ
dropped s = length (filter (λ v. not (stays s v)) s.kept)

-- in this state the call of the caller has this answer
abbrev pub Answers : State → ℕ → Call → Answer → Type 0
-- the pin has the number of pins made so far, and the last version
Answers s caller Pin (Pinned number v) = (number ≡ s.made) × (v ≡ head s)
-- the wanted version passes the last one; else it is not kept; else the pin has it
Answers s caller (PinAt wanted) (NoVersion last) = (head s < wanted) × (last ≡ head s)
Answers s caller (PinAt wanted) (Gone least) = (wanted ≤ head s) × (¬ IsKept s wanted) × IsLeastKept s least
Answers s caller (PinAt wanted) (Pinned number v) = (wanted ≤ head s) × IsKept s wanted × (number ≡ s.made) × (v ≡ wanted)
-- a release is never refused
Answers s caller (Release number) Released = Unit {0}
-- how many versions the collect drops
Answers s caller Collect (Collected count) = count ≡ dropped s
-- v is the pin's version: a later commit wrote what the operations read there; else they are run on the last version
Answers s caller (Commit number ops) (Conflict object w) = (v : ℕ) × IsLive s number caller v × IsConflict s v ops object w
Answers s caller (Commit number ops) (Committed last replies) =
    (v : ℕ) × IsLive s number caller v × HasNoConflict s v ops × (last ≡ head s + 1) × (replies ≡ (run (design s (head s)) ops).replies)
-- no other pair of a call and an answer
Answers s caller call answer = ⊥

-- the event may come next: it has room, is its caller's, and has the answer of its call
pub record Admits (s : State) (event : Event) : Type 0 where
  pub room : HasRoom s event.call
  pub callers : IsCallers s event.caller event.call
  pub answers : Answers s event.caller event.call event.answer
