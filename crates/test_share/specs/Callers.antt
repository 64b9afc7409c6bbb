-- A caller of a shared database, over its steps, and the pins of a core.
use Rattle.std.specs.Prelude.{◌≡◌, Option, IfSome}
use Rattle.edit_tx.specs.Facts.{PinFacts, TxFacts}
use Rattle.db_core.specs.Story.{Story, IsPinOf}
use Rattle.db_share.specs.Passes.{Shared, Pass, HasPin, IsReady}

-- the pin of the transaction, where there is one, is the pass's own
abbrev pub HasOpen : Shared → Pass → Option TxFacts → Type 0
HasOpen db pass held = IfSome held (λ tx. HasPin db pass tx.pin)

-- and so after a step
pub record GoesTo (db : Shared) (old new : Pass) (held : Option TxFacts) : Type 0 where
  pub ready : IsReady db new
  pub number : new.number ≡ old.number
  pub pin : HasOpen db new held

-- each pin of a core is still one
abbrev pub KeepsPins : Story → Story → Type 0
KeepsPins old new = (pin : PinFacts) → IsPinOf old pin → IsPinOf new pin
