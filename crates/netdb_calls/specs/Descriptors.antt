-- A sink over a file descriptor, as contracts see it.
use Rattle.std.specs.Prelude.{◌≡◌, ℕ, ℤ, List, Option, None}
use Rattle.netdb_outside.specs.Outside.{raised}
use Rattle.netdb_outside.specs.declared.sink.Put.{Put as Answer}
use Rattle.netdb_outside.specs.declared.sink.Put.TheVariants.{Put, Failed, NoMemory}

-- the descriptor, and how many faults there were
pub record DescriptorFacts : Type 0 where
  pub descriptor : ℤ
  pub faults : ℕ

-- over this descriptor, before anything was put
abbrev pub fresh : ℤ → DescriptorFacts
fresh descriptor = record { descriptor = descriptor; faults = 0 }

-- the bytes that were written are not told: no contract says what the system did with them
abbrev pub bytes_told : DescriptorFacts → Option (List ℕ)
bytes_told sink = None

-- a put that fails is one fault more; each leaves the descriptor, and none wants memory
abbrev pub PutGives : DescriptorFacts → DescriptorFacts → Answer → Type 0
PutGives old new Put = new ≡ old
PutGives old new Failed = new ≡ record old { faults = raised old.faults }
PutGives old new NoMemory = ⊥
