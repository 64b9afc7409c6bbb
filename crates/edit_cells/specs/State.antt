-- The state of cells that are read and edited, and what reading does to it.
use Rattle.std.specs.Prelude.{◌≡◌, ◌⊎◌, ◌↔◌, List, Result, MatchResult}
use Rattle.std.specs.List.{Contains}
use Rattle.netlist_schema.specs.Design.{Design}
use Rattle.netlist_schema.specs.Types.{Object}
use Rattle.edit_rules_spec.specs.Objects.{IsPrefix}

-- the design that editing began with, the design as it is now, the objects read, and the objects written
pub record State : Type 0 where
  pub base : Design
  pub design : Design
  pub reads : List Object
  pub written : List Object

-- the list goes on, and has as a set what it had and these objects
pub record GrowsBy (old new : List Object) (Objects : Object → Type 0) : Type 0 where
  pub prefix : IsPrefix old new
  pub objects : (o : Object) → Contains new o ↔ (Contains old o ⊎ Objects o)

-- these objects were read, and nothing else was done
pub record HasRead (old new : State) (Objects : Object → Type 0) : Type 0 where
  pub base : new.base ≡ old.base
  pub design : new.design ≡ old.design
  pub written : new.written ≡ old.written
  pub reads : GrowsBy old.reads new.reads Objects

-- a call that reads these objects; where it fails, nothing is changed
abbrev pub ReadsOrFails : {T E : Type 0} → Result T E → State → State → (Object → Type 0) → Type 0
ReadsOrFails result old new Objects = MatchResult result (λ _. HasRead old new Objects) (λ _. new ≡ old)

-- nothing but reading was done
pub record HasReadSome (old new : State) : Type 0 where
  pub base : new.base ≡ old.base
  pub design : new.design ≡ old.design
  pub written : new.written ≡ old.written
  pub prefix : IsPrefix old.reads new.reads
