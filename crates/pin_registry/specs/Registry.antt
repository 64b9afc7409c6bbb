-- A registry of pins, as its callers see it.
use Rattle.std.specs.Prelude.{ℕ, ◌+◌, ◌==◌, List, [], ◌∷◌, ◌++◌, filter, not, Contains}

-- a live pin, with the version that it holds
pub record LivePin : Type 0 where
  pub number : ℕ
  pub version : ℕ

-- how many pins were made, and which of them are live
pub record Registry : Type 0 where
  -- the number of pins made
  pub made : ℕ
  -- the live pins, in the order of their numbers
  pub live : List LivePin

-- the live pin of this number, on this version
abbrev pub live_pin : ℕ → ℕ → LivePin
live_pin number version = record { number = number; version = version }

-- the number is a live pin's
abbrev pub IsLive : Registry → ℕ → Type 0
IsLive registry number = (version : ℕ) × Contains registry.live (live_pin number version)

-- one more pin was made, with the next number, and it is live on the version
abbrev pub with_pin : Registry → ℕ → Registry
with_pin registry version = record { made = registry.made + 1; live = registry.live ++ live_pin registry.made version ∷ [] }

-- the pin of this number is no longer live
abbrev pub without_pin : Registry → ℕ → Registry
without_pin registry number = record registry { live = filter (λ pin. not (pin.number == number)) registry.live }
