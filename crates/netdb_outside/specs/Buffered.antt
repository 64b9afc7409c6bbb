-- What waits for a sink and what the sink has, after bytes were given.
use Rattle.std.specs.Prelude.{◌≡◌, ◌≤◌, ℕ, List, [], ◌++◌, Option, Some, None}
use Rattle.netdb_outside.specs.Outside.{Appends, AppendsFront, Rose}
use Rattle.netdb_outside.specs.declared.write_error.WriteError.{WriteError}
use Rattle.netdb_outside.specs.declared.write_error.WriteError.TheVariants.{NoMemory, WriteFault}

-- bytes that wait for a sink, and the first failure
pub record Buffered : Type 0 where
  pub waiting : List ℕ
  pub failure : Option WriteError

-- nothing waits, and nothing has failed
abbrev pub nothing_waits : Buffered
nothing_waits = record { waiting = []; failure = None }

-- the same bytes wait, and there was no memory
abbrev pub out_of_memory : Buffered → Buffered
out_of_memory b = record { waiting = b.waiting; failure = Some NoMemory }

-- a front of the bytes was written, and the others wait
abbrev pub IsParted : Option (List ℕ) → Option (List ℕ) → List ℕ → List ℕ → Type 0
IsParted old new bytes waiting = (front : List ℕ) × (bytes ≡ front ++ waiting) × Appends old new front

-- a write fault comes only where the sink had one
abbrev pub HasCause : WriteError → ℕ → ℕ → Type 0
HasCause e old new = e ≡ WriteFault → Rose old new

-- Where nothing fails, a front of what waited and of the bytes was written, and the rest waits. At the first failure a front
-- of these was written. After it nothing more is.
abbrev pub Comes : Option (List ℕ) → Option (List ℕ) → ℕ → ℕ → List ℕ → List ℕ → Option WriteError → Option WriteError → Type 0
Comes old new before after bytes waiting None None = IsParted old new bytes waiting
Comes old new before after bytes waiting None (Some e) = AppendsFront old new bytes × HasCause e before after
Comes old new before after bytes waiting (Some e) None = ⊥
Comes old new before after bytes waiting (Some e) (Some f) = (f ≡ e) × (new ≡ old)

-- a buffer and its sink were given these bytes
pub record Writes {K : Type 0} (written : K → Option (List ℕ)) (faults : K → ℕ) (old : K) (before : Buffered) (new : K) (after : Buffered) (bytes : List ℕ) : Type 0 where
  pub comes : Comes (written old) (written new) (faults old) (faults new) (before.waiting ++ bytes) after.waiting before.failure after.failure
  pub never_falls : faults old ≤ faults new
