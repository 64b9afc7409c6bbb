-- The faults that were counted, and what a status says of them.
use Rattle.std.specs.Prelude.{◌≡◌, ◌≤◌, ℕ}
use Rattle.netdb_outside.specs.Outside.{Rose}
use Rattle.netdb_spec.specs.declared.status.Status.{Status}
use Rattle.netdb_spec.specs.declared.status.Status.TheVariants as status

-- a status behind a fault in reading in the order of causes: it comes only where no such fault was counted
abbrev pub IsBehindReadFault : Status → Type 0
IsBehindReadFault status.Usage = ⊥
IsBehindReadFault (status.ReadFault word) = ⊥
IsBehindReadFault status.NoMemory = ⊥
IsBehindReadFault _ = Unit {0}

-- The faults in reading that were counted before and after: one is answered only where the count rose, and first of all causes.
pub record CountsReading (old new : ℕ) (result : Status) : Type 0 where
  pub fault : (word : ℕ) → result ≡ status.ReadFault word → Rose old new
  pub first : IsBehindReadFault result → new ≡ old
  pub never_falls : old ≤ new

-- the faults in writing that were counted before and after: one is answered only where the count rose
pub record CountsWriting (old new : ℕ) (result : Status) : Type 0 where
  pub fault : result ≡ status.WriteFault → Rose old new
  pub never_falls : old ≤ new
