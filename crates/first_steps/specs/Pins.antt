-- Pins by their callers, and over calls.
use Rattle.std.specs.Prelude.{◌≡◌, ℕ}
use Rattle.edit_tx.specs.Facts.{PinFacts}
use Rattle.db_core.specs.Story.{Story, IsPinOf}

-- the caller holds the pin
pub record IsPinBy (story : Story) (caller : ℕ) (pin : PinFacts) : Type 0 where
  pub is_pin : IsPinOf story pin
  pub caller_is : pin.caller ≡ caller

-- each pin is still one
abbrev pub KeepsPins : Story → Story → Type 0
KeepsPins old new = (pin : PinFacts) → IsPinOf old pin → IsPinOf new pin
