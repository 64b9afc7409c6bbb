-- A pin stays while calls are made that do not release it.
use Rattle.std.proofs.Common.{ℕ, sym, subst}
use Rattle.edit_tx.specs.Facts.{PinFacts, TxFacts}
use Rattle.db_spec.specs.declared.event.Answer.TheVariants.{Committed, Pinned, Released}
use Rattle.db_spec.specs.declared.event.Call.TheVariants.{Pin, Release}
use Rattle.db_core.specs.Calls.{Accepts, Pins, Releases, commit_event, event_of}
use Rattle.db_core.specs.Story.{Story, IsHistory}
use Rattle.db_core.proofs.Staying.{pin_stays_on}
use Rattle.test_core.specs.Pins.{IsPinBy}

module _ (old new : Story) (history : IsHistory old) where
  module _ (caller : ℕ) (held : PinFacts) (is : IsPinBy old caller held) where
    -- over a pin
    pub over_pin : (by : ℕ) (made : PinFacts) → Pins old new by Pin made → IsPinBy new caller held
    over_pin by made pins = record {
      is_pin = pin_stays_on old new (event_of by Pin (Pinned made.number made.version)) held history.legal pins.adds (λ release. cc release.1) is.is_pin;
      caller_is = is.caller_is;
    }

    -- over an accepted commit
    pub over_commit : (tx : TxFacts) (version : ℕ) (back : PinFacts) → Accepts old new tx version back → IsPinBy new caller held
    over_commit tx version back accepts = record {
      is_pin = pin_stays_on old new (commit_event tx (Committed version tx.replies)) held history.legal accepts.adds (λ release. cc release.1) is.is_pin;
      caller_is = is.caller_is;
    }

  -- the pin that an accepted commit gives back
  pub given_back : (caller : ℕ) (tx : TxFacts) (version : ℕ) (back : PinFacts) → IsPinBy old caller tx.pin → Accepts old new tx version back → IsPinBy new caller back
  given_back caller tx version back is accepts = subst (λ (pin : PinFacts). IsPinBy new caller pin) (sym accepts.pin_is) (over_commit caller tx.pin is tx version back accepts)

  -- over a release by another caller
  pub over_release : (held pin : PinFacts) → IsPinBy old 0 held → IsPinBy old 1 pin → Releases old new pin → IsPinBy new 0 held
  over_release held pin is other released = record {
    is_pin = pin_stays_on old new (event_of pin.caller (Release pin.number) Released) held history.legal released (λ release. cc (release.0, is.caller_is, other.caller_is)) is.is_pin;
    caller_is = is.caller_is;
  }
