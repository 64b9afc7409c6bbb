-- Pins over each call.
use Rattle.std.proofs.Common.{◌≡◌, ◌≢◌, ℕ, Result, Ok, Err, IfOk, sym, ◌∙◌, subst}
use Rattle.edit_tx.specs.Facts.{PinFacts, TxFacts}
use Rattle.db_spec.specs.declared.event.Answer.{Answer}
use Rattle.db_spec.specs.declared.event.Answer.TheVariants.{Released}
use Rattle.db_spec.specs.declared.event.Call.{Call}
use Rattle.db_spec.specs.declared.event.Call.TheVariants.{Pin, PinAt, Release, Collect}
use Rattle.db_core.specs.declared.errors.PinError.{PinError}
use Rattle.db_core.specs.declared.errors.PinError.TheVariants.{LogFull as PinFull, NoMemory as PinNoMemory}
use Rattle.db_core.specs.declared.errors.PinAtError.{PinAtError}
use Rattle.db_core.specs.declared.errors.PinAtError.TheVariants.{LogFull as PinAtFull, NoVersion, Gone, NoMemory as PinAtNoMemory}
use Rattle.db_core.specs.declared.errors.CollectError.{CollectError}
use Rattle.db_core.specs.declared.errors.CollectError.TheVariants.{LogFull as CollectFull, NoMemory as CollectNoMemory}
use Rattle.db_core.specs.declared.errors.CommitError.{CommitError}
use Rattle.db_core.specs.declared.errors.CommitError.TheVariants.{LogFull as CommitFull, Conflict, NoMemory as CommitNoMemory}
use Rattle.db_core.specs.Story.{Story, IsHistory}
use Rattle.db_core.specs.Calls.{Accepts, Adds, Collects, Commits, IsRefused, PinsAt, PinsHead, Releases, commit_of, event_of}
use Rattle.db_core.proofs.Staying.{pin_stays_on}
use Rattle.test_core.specs.Keeps.{IsPinBy, KeepsOthers, KeepsPins}

module _ (old new : Story) (history : IsHistory old) where
  still : new ≡ old → KeepsPins old new
  still same caller pin is = subst (λ (s : Story). IsPinBy s caller pin) (sym same) is

  -- over an event that is no release
  over : (by : ℕ) (call : Call) (answer : Answer) → ((number : ℕ) → call ≢ Release number) → Adds old new (event_of by call answer) → KeepsPins old new
  over by call answer other adds caller pin is = record {
    is_pin = pin_stays_on old new (event_of by call answer) pin history.legal adds (λ release. other pin.number release.1) is.is_pin;
    caller_is = is.caller_is;
  }

  pub keeps_pin : (by : ℕ) (r : Result PinFacts PinError) → PinsHead old new by r → KeepsPins old new
  keeps_pin by (Ok made) is = over by Pin _ (λ n e. cc) is.adds
  keeps_pin by (Err PinFull) is = still is.same
  keeps_pin by (Err PinNoMemory) is = still is.same

  pub keeps_pin_at : (by wanted : ℕ) (r : Result PinFacts PinAtError) → PinsAt old new by wanted r → KeepsPins old new
  keeps_pin_at by wanted (Ok made) is = over by (PinAt wanted) _ (λ n e. cc) is.adds
  keeps_pin_at by wanted (Err (NoVersion last)) is = over by (PinAt wanted) _ (λ n e. cc) is
  keeps_pin_at by wanted (Err (Gone least)) is = over by (PinAt wanted) _ (λ n e. cc) is
  keeps_pin_at by wanted (Err PinAtFull) is = still is.same
  keeps_pin_at by wanted (Err PinAtNoMemory) is = still is.same

  pub keeps_collect : (by : ℕ) (r : Result ℕ CollectError) → Collects old new by r → KeepsPins old new
  keeps_collect by (Ok dropped) is = over by Collect _ (λ n e. cc) is
  keeps_collect by (Err CollectFull) is = still is.same
  keeps_collect by (Err CollectNoMemory) is = still is.same

  keeps_refused : (tx : TxFacts) (error : CommitError) → IsRefused old new tx error → KeepsPins old new
  keeps_refused tx CommitFull is = still is.same
  keeps_refused tx (Conflict object w) is = over tx.pin.caller (commit_of tx) _ (λ n e. cc) is
  keeps_refused tx CommitNoMemory is = still is.same

  pub keeps_commit : (tx : TxFacts) (r : Result (ℕ × PinFacts) (CommitError × TxFacts)) → Commits old new tx r → KeepsPins old new
  keeps_commit tx (Ok done) is = over tx.pin.caller (commit_of tx) _ (λ n e. cc) is.adds
  keeps_commit tx (Err refused) is = keeps_refused tx refused.0 is.1

  -- over a release of the caller
  pub keeps_others : (by : ℕ) (released : PinFacts) → IsPinBy old by released → Releases old new released → KeepsOthers by old new
  keeps_others by released mine adds other pin apart is = record {
    is_pin = pin_stays_on old new (event_of released.caller (Release released.number) Released) pin history.legal adds
        (λ release. apart (sym is.caller_is ∙ sym release.0 ∙ mine.caller_is)) is.is_pin;
    caller_is = is.caller_is;
  }

  pub is_pinned_at : (by wanted : ℕ) (r : Result PinFacts PinAtError) → PinsAt old new by wanted r → IfOk r (IsPinBy new by)
  is_pinned_at by wanted (Ok made) is = record { is_pin = is.is_pin; caller_is = is.caller_is }
  is_pinned_at by wanted (Err error) is = tt

  pub keeps_accepted : (tx : TxFacts) (version : ℕ) (pin : PinFacts) → Accepts old new tx version pin → KeepsPins old new
  keeps_accepted tx version pin is = keeps_commit tx (Ok (version, pin)) is

  pub keeps_back : (tx : TxFacts) (error : CommitError) (back : TxFacts) → (back ≡ tx) × IsRefused old new tx error → KeepsPins old new
  keeps_back tx error back is = keeps_commit tx (Err (error, back)) is

  -- an accepted transaction gives its pin back
  pub is_accepted : (by : ℕ) (tx : TxFacts) (version : ℕ) (pin : PinFacts) → IsPinBy old by tx.pin → Accepts old new tx version pin → IsPinBy new by pin
  is_accepted by tx version pin mine is = subst (λ (p : PinFacts). IsPinBy new by p) (sym is.pin_is) (keeps_commit tx (Ok (version, pin)) is by tx.pin mine)

  -- a refused one comes back with its pin
  pub is_back : (by : ℕ) (tx : TxFacts) (error : CommitError) (back : TxFacts) → IsPinBy old by tx.pin → (back ≡ tx) × IsRefused old new tx error → IsPinBy new by back.pin
  is_back by tx error back mine is = subst (λ (t : TxFacts). IsPinBy new by t.pin) (sym is.0) (keeps_commit tx (Err (error, back)) is by tx.pin mine)
