-- What a read gives.
use Rattle.std.specs.Prelude.{ℕ, ◌≤◌, List, length, take, Option}
use Rattle.netdb_outside.specs.Outside.{Folder, Takes, NothingLeft}
use Rattle.netdb_outside.specs.declared.files.Got.{Got}
use Rattle.netdb_outside.specs.declared.files.Got.TheVariants.{Bytes, End, Failed, NoMemory}

-- bytes came, or there are none left
abbrev pub ReadsOn : Got → Type 0
ReadsOn (Bytes n) = Unit {0}
ReadsOn End = Unit {0}
ReadsOn Failed = ⊥
ReadsOn NoMemory = ⊥

-- the next bytes, as many as it says, stand at the front of the buffer; at the end nothing was left, and nothing is
abbrev pub ReadGives : Option Folder → Option Folder → List ℕ → Got → Type 0
ReadGives old new buf (Bytes n) = (1 ≤ n) × (n ≤ length buf) × Takes old new (take n buf)
ReadGives old new buf End = NothingLeft old × NothingLeft new
ReadGives old new buf Failed = Unit {0}
ReadGives old new buf NoMemory = Unit {0}
