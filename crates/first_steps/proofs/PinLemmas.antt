-- Pins stay while calls are made that do not release them.
use Rattle.std.proofs.Common.{◌≡◌, ℕ, Ok, Err, Result, sym, subst}
use Rattle.edit_tx.specs.Facts.{PinFacts, TxFacts}
use Rattle.db_spec.specs.declared.event.Answer.TheVariants.{Committed, Conflict as Conflicted, Pinned, Released}
use Rattle.db_spec.specs.declared.event.Call.TheVariants.{Pin, Release}
use Rattle.db_core.specs.declared.errors.CommitError.{CommitError}
use Rattle.db_core.specs.declared.errors.CommitError.TheVariants.{Conflict, LogFull as CommitFull, NoMemory as CommitNoMemory}
use Rattle.db_core.specs.declared.errors.PinError.{PinError}
use Rattle.db_core.specs.declared.errors.PinError.TheVariants.{LogFull as PinFull, NoMemory as PinNoMemory}
use Rattle.db_core.specs.Calls.{Commits, PinsHead, Releases, commit_event, event_of}
use Rattle.db_core.specs.Story.{Story, IsHistory, IsPinOf}
use Rattle.db_core.proofs.Staying.{pin_stays_on}
use Rattle.first_steps.specs.Pins.{KeepsPins}

-- where nothing was changed
same_pins : (old new : Story) → new ≡ old → KeepsPins old new
same_pins old new same pin is = subst (λ (st : Story). IsPinOf st pin) (sym same) is

module _ (old new : Story) (history : IsHistory old) where
  -- over a pin
  pub over_pin : (caller : ℕ) (result : Result PinFacts PinError) → PinsHead old new caller result → KeepsPins old new
  over_pin caller (Ok made) pins held is =
      pin_stays_on old new (event_of caller Pin (Pinned made.number made.version)) held history.legal pins.adds (λ release. cc release.1) is
  over_pin caller (Err PinFull) full held is = same_pins old new full.same held is
  over_pin caller (Err PinNoMemory) lacks held is = same_pins old new lacks.same held is

  -- over a commit
  pub over_commit : (tx : TxFacts) (result : Result (ℕ × PinFacts) (CommitError × TxFacts)) → Commits old new tx result → KeepsPins old new
  over_commit tx (Ok done) accepts held is =
      pin_stays_on old new (commit_event tx (Committed done.0 tx.replies)) held history.legal accepts.adds (λ release. cc release.1) is
  over_commit tx (Err (CommitFull, back)) refused held is = same_pins old new refused.1.same held is
  over_commit tx (Err (Conflict object w, back)) refused held is =
      pin_stays_on old new (commit_event tx (Conflicted object w)) held history.legal refused.1 (λ release. cc release.1) is
  over_commit tx (Err (CommitNoMemory, back)) refused held is = same_pins old new refused.1.same held is

  -- over a release by another caller
  pub over_release : (held pin : PinFacts) → IsPinOf old held → held.caller ≡ 1 → pin.caller ≡ 0 → Releases old new pin → IsPinOf new held
  over_release held pin is one zero released =
      pin_stays_on old new (event_of pin.caller (Release pin.number) Released) held history.legal released (λ release. cc (release.0, one, zero)) is
