-- What a step leaves of a caller's pass and of its pin.
use Rattle.std.proofs.Common.{◌≡◌, ℕ, Option, Some, None, Result, Ok, Err, refl, sym, ◌∙◌, ap, subst}
use Rattle.std.specs.Prelude.{IfSome}
use Rattle.edit_tx.specs.Facts.{PinFacts, TxFacts}
use Rattle.db_core.specs.declared.errors.CollectError.{CollectError}
use Rattle.db_core.specs.declared.errors.CommitError.{CommitError}
use Rattle.db_share.specs.Passes.{Shared, Pass, HasPin, IsReady}
use Rattle.db_share.specs.Calls.{GoesOn, HasCollected, HasCommitted}
use Rattle.db_share.proofs.Keeping.{keeps_collected, keeps_committed}
use Rattle.test_share.specs.Callers.{GoesTo, HasOpen}

-- the same pin under another name
pub pin_of : (db : Shared) (pass : Pass) (pin other : PinFacts) → HasPin db pass pin → other ≡ pin → HasPin db pass other
pin_of db pass pin other has same = subst (λ (p : PinFacts). HasPin db pass p) (sym same) has

-- a transaction on a pin
held_on : (db : Shared) (pass : Pass) (pin : PinFacts) (held : Option TxFacts) → HasPin db pass pin → IfSome held (λ (tx : TxFacts). tx.pin ≡ pin) → HasOpen db pass held
held_on db pass pin None has is = tt
held_on db pass pin (Some tx) has is = pin_of db pass pin tx.pin has is

-- no step
pub first_to : (db : Shared) (pass : Pass) (held : Option TxFacts) → IsReady db pass → HasOpen db pass held → GoesTo db pass pass held
first_to db pass held ready has = record { ready = ready; number = refl; pin = has }

pub none_first : (db : Shared) (pass : Pass) → IsReady db pass → GoesTo db pass pass None
none_first db pass ready = first_to db pass None ready tt

-- two steps
pub on_to : (db : Shared) (old mid new : Pass) (before after : Option TxFacts) → GoesTo db old mid before → GoesTo db mid new after → GoesTo db old new after
on_to db old mid new before after one two = record { ready = two.ready; number = two.number ∙ one.number; pin = two.pin }

-- a call that left no pin
pub none_to : (db : Shared) (old new : Pass) → GoesOn db old new → GoesTo db old new None
none_to db old new on = record { ready = on.ready; number = on.number; pin = tt }

-- a transaction was begun on a pin that the call left
pub begun_to : (db : Shared) (old mid new : Pass) (pin : PinFacts) (held : Option TxFacts) → GoesOn db old mid → HasPin db mid pin → new ≡ mid → IfSome held (λ (tx : TxFacts). tx.pin ≡ pin) → GoesTo db old new held
begun_to db old mid new pin held on has same is =
    subst (λ (p : Pass). GoesTo db old p held) (sym same) (record { ready = on.ready; number = on.number; pin = held_on db mid pin held has is })

-- an edit between two calls
pub edited_to : (db : Shared) (pass : Pass) (pin : PinFacts) (held : Option TxFacts) → IsReady db pass → HasPin db pass pin → IfSome held (λ (tx : TxFacts). tx.pin ≡ pin) → GoesTo db pass pass held
edited_to db pass pin held ready has is = first_to db pass held ready (held_on db pass pin held has is)

pub accepted_to : (db : Shared) (old mid new : Pass) (tx : TxFacts) (version : ℕ) (pin : PinFacts) (held : Option TxFacts) → GoesOn db old mid → HasCommitted db old mid tx (Ok (version, pin)) → new ≡ mid
    → IfSome held (λ (next : TxFacts). next.pin ≡ pin) → GoesTo db old new held
accepted_to db old mid new tx version pin held on done same is = begun_to db old mid new pin held on (pin_of db mid tx.pin pin done.2 done.1) same is

pub refused_to : (db : Shared) (old new : Pass) (tx back : TxFacts) (error : CommitError) → IsReady db old → HasPin db old tx.pin → GoesOn db old new → HasCommitted db old new tx (Err (error, back)) → GoesTo db old new (Some back)
refused_to db old new tx back error ready has on refused =
    record { ready = on.ready; number = on.number; pin = pin_of db new tx.pin back.pin (keeps_committed db old new ready tx (Err (error, back)) refused tx.pin has) (ap (λ (t : TxFacts). t.pin) refused.1) }

pub collected_to : (db : Shared) (old new : Pass) (held : Option TxFacts) (r : Result ℕ CollectError) → IsReady db old → HasOpen db old held → GoesOn db old new → HasCollected db old new r → GoesTo db old new held
collected_to db old new held r ready has on done = record { ready = on.ready; number = on.number; pin = still held has }
  where
    still : (h : Option TxFacts) → HasOpen db old h → HasOpen db new h
    still None mine = tt
    still (Some tx) mine = keeps_collected db old new ready r done tx.pin mine
