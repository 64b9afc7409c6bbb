-- The pins of a pass over each call.
use Rattle.std.proofs.Common.{◌≡◌, ◌≢◌, ℕ, Result, Ok, Err}
use Rattle.edit_tx.specs.Facts.{PinFacts, TxFacts}
use Rattle.db_spec.specs.declared.event.Answer.{Answer}
use Rattle.db_spec.specs.declared.event.Call.{Call}
use Rattle.db_spec.specs.declared.event.Call.TheVariants.{Pin, PinAt, Release, Collect}
use Rattle.db_core.specs.declared.errors.PinError.{PinError}
use Rattle.db_core.specs.declared.errors.PinError.TheVariants.{LogFull as PinFull, NoMemory as PinNoMemory}
use Rattle.db_core.specs.declared.errors.PinAtError.{PinAtError}
use Rattle.db_core.specs.declared.errors.PinAtError.TheVariants.{LogFull as PinAtFull, NoVersion, Gone, NoMemory as PinAtNoMemory}
use Rattle.db_core.specs.declared.errors.CollectError.{CollectError}
use Rattle.db_core.specs.declared.errors.CollectError.TheVariants.{LogFull as CollectFull, NoMemory as CollectNoMemory}
use Rattle.db_core.specs.declared.errors.CommitError.{CommitError}
use Rattle.db_core.specs.declared.errors.CommitError.TheVariants.{LogFull as CommitFull, Conflict, NoMemory as CommitNoMemory}
use Rattle.db_core.specs.Calls.{commit_of}
use Rattle.db_share.specs.Passes.{Shared, Pass, IsReady, HasPin, KeepsPins}
use Rattle.db_share.specs.Calls.{Looks, Makes, HasPinned, HasPinnedAt, HasReleased, HasCollected, HasCommitted, IsRefused}
use Rattle.db_share.proofs.Held.{stays_looking, stays_making}

module _ (db : Shared) (old new : Pass) (ready : IsReady db old) where
  looking : Looks db old new → KeepsPins db old new
  looking looks pin has = stays_looking db old new pin ready looks has

  -- over an event that is no release
  making : (call : Call) (answer : Answer) → ((number : ℕ) → call ≢ Release number) → Makes db old new call answer → KeepsPins db old new
  making call answer other makes pin has = stays_making db old new call answer pin ready makes (other pin.number) has

  pub keeps_pinned : (r : Result PinFacts PinError) → HasPinned db old new r → KeepsPins db old new
  keeps_pinned (Ok pin) is = making Pin _ (λ n e. cc) is.makes
  keeps_pinned (Err PinFull) is = looking is.looks
  keeps_pinned (Err PinNoMemory) is = looking is.looks

  pub keeps_pinned_at : (version : ℕ) (r : Result PinFacts PinAtError) → HasPinnedAt db old new version r → KeepsPins db old new
  keeps_pinned_at version (Ok pin) is = making (PinAt version) _ (λ n e. cc) is.makes
  keeps_pinned_at version (Err (NoVersion last)) is = making (PinAt version) _ (λ n e. cc) is
  keeps_pinned_at version (Err (Gone least)) is = making (PinAt version) _ (λ n e. cc) is
  keeps_pinned_at version (Err PinAtFull) is = looking is.looks
  keeps_pinned_at version (Err PinAtNoMemory) is = looking is.looks

  pub keeps_collected : (r : Result ℕ CollectError) → HasCollected db old new r → KeepsPins db old new
  keeps_collected (Ok dropped) is = making Collect _ (λ n e. cc) is
  keeps_collected (Err CollectFull) is = looking is.looks
  keeps_collected (Err CollectNoMemory) is = looking is.looks

  keeps_refused : (tx : TxFacts) (error : CommitError) → IsRefused db old new tx error → KeepsPins db old new
  keeps_refused tx CommitFull is = looking is.looks
  keeps_refused tx (Conflict object w) is = making (commit_of tx) _ (λ n e. cc) is
  keeps_refused tx CommitNoMemory is = looking is.looks

  pub keeps_committed : (tx : TxFacts) (r : Result (ℕ × PinFacts) (CommitError × TxFacts)) → HasCommitted db old new tx r → KeepsPins db old new
  keeps_committed tx (Ok done) is = making (commit_of tx) _ (λ n e. cc) is.0
  keeps_committed tx (Err refused) is = keeps_refused tx refused.0 is.0

  pub keeps_others : (released pin : PinFacts) → HasReleased db old new released → released.number ≢ pin.number → HasPin db old pin → HasPin db new pin
  keeps_others released pin is apart has = stays_making db old new (Release released.number) _ pin ready is (λ same. apart (number_of same)) has
    where
      number_of : Release released.number ≡ Release pin.number → released.number ≡ pin.number
      number_of same = cc
