-- Pins of callers, and which of them stay over a call.
use Rattle.std.specs.Prelude.{◌≡◌, ◌≢◌, ℕ}
use Rattle.edit_tx.specs.Facts.{PinFacts}
use Rattle.db_core.specs.Story.{Story, IsPinOf}

-- the caller holds the pin
pub record IsPinBy (story : Story) (caller : ℕ) (pin : PinFacts) : Type 0 where
  pub is_pin : IsPinOf story pin
  pub caller_is : pin.caller ≡ caller

-- each pin that a caller held is held still
abbrev pub KeepsPins : Story → Story → Type 0
KeepsPins old new = (caller : ℕ) (pin : PinFacts) → IsPinBy old caller pin → IsPinBy new caller pin

-- each pin that another caller held is held still
abbrev pub KeepsOthers : ℕ → Story → Story → Type 0
KeepsOthers caller old new = (other : ℕ) (pin : PinFacts) → other ≢ caller → IsPinBy old other pin → IsPinBy new other pin
