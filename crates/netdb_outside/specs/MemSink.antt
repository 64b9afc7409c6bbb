-- A sink in memory: the state, and what a put leaves.
use Rattle.std.specs.Prelude.{◌≡◌, ℕ, ◌-◌, ◌≤◌, List, ◌++◌, length, take, Option, Some, None}
use Rattle.netdb_outside.specs.Outside.{raised}
use Rattle.netdb_outside.specs.declared.sink.Put.{Put as Answer}
use Rattle.netdb_outside.specs.declared.sink.Put.TheVariants.{Put, Failed, NoMemory}

-- the bytes that were written, at most how many may be, where that is limited, and how many faults there were
pub record SinkFacts : Type 0 where
  pub bytes : List ℕ
  pub most : Option ℕ
  pub faults : ℕ

-- a piece is no longer than the room that is left behind the bytes that were written
abbrev pub Fits : Option ℕ → List ℕ → List ℕ → Type 0
Fits None bytes piece = Unit {0}
Fits (Some most) bytes piece = length piece ≤ most - length bytes

-- the front of a piece that fits behind the bytes that were written
abbrev pub fitting : Option ℕ → List ℕ → List ℕ → List ℕ
fitting None bytes piece = piece
fitting (Some most) bytes piece = take (most - length bytes) piece

-- a piece that fits is written; of one that does not fit the front that does, with a fault; or nothing, for want of memory
abbrev pub PutGives : SinkFacts → SinkFacts → List ℕ → Answer → Type 0
PutGives old new piece Put = Fits old.most old.bytes piece × (new ≡ record old { bytes = old.bytes ++ piece })
PutGives old new piece Failed = (Fits old.most old.bytes piece → ⊥) × (new ≡ record old { bytes = old.bytes ++ fitting old.most old.bytes piece; faults = raised old.faults })
PutGives old new piece NoMemory = new ≡ old
