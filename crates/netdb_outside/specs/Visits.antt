-- Which files were asked for, in their order, and how far each was read.
use Rattle.std.specs.Prelude.{◌≡◌, ◌+◌, ◌≤◌, ℕ, List, [], ◌∷◌, ◌++◌}
use Rattle.netdb_outside.specs.declared.files.Got.{Got}
use Rattle.netdb_outside.specs.declared.files.Got.TheVariants as got
use Rattle.netdb_outside.specs.declared.files.Opened.{Opened}
use Rattle.netdb_outside.specs.declared.files.Opened.TheVariants as opened

-- what the last call on a file answered
pub data Reach : Type 0 where
  -- it was opened, or bytes came
  Going : Reach
  -- nothing is left
  AtEnd : Reach
  -- there is no such file
  Absent : Reach
  -- there was a fault
  Broken : Reach
  -- there was no memory
  Starved : Reach

-- a file that was asked for: its name, how many of its bytes came, and what the last call on it answered
pub record Visit : Type 0 where
  pub name : List ℕ
  pub bytes : ℕ
  pub reach : Reach

-- what opening answered
abbrev pub opened_to : Opened → Reach
opened_to opened.Ready = Going
opened_to opened.Missing = Absent
opened_to opened.Failed = Broken
opened_to opened.NoMemory = Starved

-- a file that has just been asked for
abbrev pub begun : List ℕ → Opened → Visit
begun name answer = record { name = name; bytes = 0; reach = opened_to answer }

-- a file after one more read
abbrev pub read_on : Visit → Got → Visit
read_on visit (got.Bytes n) = record { name = visit.name; bytes = visit.bytes + n; reach = Going }
read_on visit got.End = record { name = visit.name; bytes = visit.bytes; reach = AtEnd }
read_on visit got.Failed = record { name = visit.name; bytes = visit.bytes; reach = Broken }
read_on visit got.NoMemory = record { name = visit.name; bytes = visit.bytes; reach = Starved }

-- the file of this name was asked for, at most so many of its bytes came, and this the last call on it answered
pub record IsVisit (file : List ℕ) (most : ℕ) (last : Reach) (visit : Visit) : Type 0 where
  pub named : visit.name ≡ file
  pub within : visit.bytes ≤ most
  pub reached : visit.reach ≡ last

-- one file more was asked for, of which this holds
abbrev pub AddsVisit : (List Visit → Type 0) → (List Visit → Type 0) → (Visit → Type 0) → Type 0
AddsVisit old new P = (before : List Visit) → old before → (visit : Visit) × P visit × new (before ++ visit ∷ [])
