-- The answer of each call, from what the core answers in the call's turn.
use Rattle.std.proofs.Common.{◌≡◌, ℕ, true, false, List, [], ◌++◌, Result, Ok, Err, refl, ap, sym, ◌∙◌, subst}
use Rattle.std.specs.Prelude.{is_ok}
use Rattle.std.proofs.lemmas.List.{append-nil}
use Rattle.std.proofs.lemmas.List.Elements.{All-nil}
use mathlib.Core.List.{IsPrefix}
use Rattle.edit_tx.specs.Facts.{PinFacts, TxFacts}
use Rattle.db_spec.specs.declared.event.Answer.{Answer}
use Rattle.db_spec.specs.declared.event.Answer.TheVariants.{Pinned, Released, Collected, Committed}
use Rattle.db_spec.specs.declared.event.Call.{Call}
use Rattle.db_spec.specs.declared.event.Call.TheVariants.{Pin, PinAt, Release, Collect}
use Rattle.db_spec.specs.declared.event.Event.{Event}
use Rattle.db_spec.specs.Answers.{HasRoom}
use Rattle.db_spec.specs.State.{State}
use Rattle.turn_cell.specs.Seats.{entries_of, taken}
use Rattle.db_core.specs.declared.errors.PinError.{PinError}
use Rattle.db_core.specs.declared.errors.PinError.TheVariants.{LogFull as PinFull, NoMemory as PinNoMemory}
use Rattle.db_core.specs.declared.errors.PinAtError.{PinAtError}
use Rattle.db_core.specs.declared.errors.PinAtError.TheVariants.{LogFull as PinAtFull, NoVersion, Gone, NoMemory as PinAtNoMemory}
use Rattle.db_core.specs.declared.errors.CollectError.{CollectError}
use Rattle.db_core.specs.declared.errors.CollectError.TheVariants.{LogFull as CollectFull, NoMemory as CollectNoMemory}
use Rattle.db_core.specs.declared.errors.CommitError.{CommitError}
use Rattle.db_core.specs.declared.errors.CommitError.TheVariants.{LogFull as CommitFull, Conflict, NoMemory as CommitNoMemory}
use Rattle.db_core.specs.Calls.{Adds, Collects, Commits, LacksRoom as LacksCoreRoom, IsRefused as IsCoreRefused, LacksMemory as CoreLacksMemory, Pins as CorePins, PinsAt, PinsHead, Releases, commit_of, event_of}
use Rattle.db_core.specs.Story.{Story, IsPinOf, state}
use Rattle.db_share.specs.Passes.{Shared, Pass, IsReady, HasPin, known, maker, story}
use Rattle.db_share.specs.Calls.{Looks, Makes, Pins, LacksRoom, LacksMemory, HasPinned, HasPinnedAt, HasReleased, HasCollected, HasCommitted, IsRefused}
use Rattle.db_share.specs.Inside.{Enters, Leaves, Steps, is_pin_at_event, is_conflict, is_commit_event}
use Rattle.db_share.proofs.Held.{pin_at_log, stays_making}
use Rattle.db_share.proofs.Turns.{looks, makes}

-- ---- what the core's answers do to its log

steps_on : (caller : ℕ) (old new : Story) (event : Event) → event.caller ≡ caller → Adds old new event → Steps caller true old new
steps_on caller old new event mine adds = record { base = adds.opening; list = (event, adds.events, mine) }

stands : (caller : ℕ) (old new : Story) → new ≡ old → Steps caller false old new
stands caller old new same = record { base = ap (λ (s : Story). s.opening) same; list = ap (λ (s : Story). s.events) same }

pub pin_steps : (caller : ℕ) (old new : Story) (r : Result PinFacts PinError) → PinsHead old new caller r → Steps caller (is_ok r) old new
pin_steps caller old new (Ok pin) is = steps_on caller old new _ refl is.adds
pin_steps caller old new (Err PinFull) is = stands caller old new is.same
pin_steps caller old new (Err PinNoMemory) is = stands caller old new is.same

pub collect_steps : (caller : ℕ) (old new : Story) (r : Result ℕ CollectError) → Collects old new caller r → Steps caller (is_ok r) old new
collect_steps caller old new (Ok dropped) is = steps_on caller old new _ refl is
collect_steps caller old new (Err CollectFull) is = stands caller old new is.same
collect_steps caller old new (Err CollectNoMemory) is = stands caller old new is.same

pub pin_at_steps : (caller : ℕ) (old new : Story) (wanted : ℕ) (r : Result PinFacts PinAtError) → PinsAt old new caller wanted r → Steps caller (is_pin_at_event r) old new
pin_at_steps caller old new wanted (Ok pin) is = steps_on caller old new _ refl is.adds
pin_at_steps caller old new wanted (Err (NoVersion last)) is = steps_on caller old new _ refl is
pin_at_steps caller old new wanted (Err (Gone least)) is = steps_on caller old new _ refl is
pin_at_steps caller old new wanted (Err PinAtFull) is = stands caller old new is.same
pin_at_steps caller old new wanted (Err PinAtNoMemory) is = stands caller old new is.same

pub release_steps : (caller : ℕ) (old new : Story) (pin : PinFacts) → pin.caller ≡ caller → Releases old new pin → Steps caller true old new
release_steps caller old new pin mine is = steps_on caller old new _ mine is

refused_steps : (caller : ℕ) (old new : Story) (tx : TxFacts) (error : CommitError) → tx.pin.caller ≡ caller → IsCoreRefused old new tx error → Steps caller (is_conflict error) old new
refused_steps caller old new tx CommitFull mine is = stands caller old new is.same
refused_steps caller old new tx (Conflict object w) mine is = steps_on caller old new _ mine is
refused_steps caller old new tx CommitNoMemory mine is = stands caller old new is.same

pub commit_steps : (caller : ℕ) (old new : Story) (tx : TxFacts) (r : Result (ℕ × PinFacts) (CommitError × TxFacts)) → tx.pin.caller ≡ caller → Commits old new tx r → Steps caller (is_commit_event r) old new
commit_steps caller old new tx (Ok done) mine is = steps_on caller old new _ mine is.adds
commit_steps caller old new tx (Err refused) mine is = refused_steps caller old new tx refused.0 mine is.1

-- ---- what stands after the call

-- a call of the pass, from the core that it took to the core that it left
module _ (db : Shared) (old mid new : Pass) (before after : Story) (enters : Enters db old mid) (took : before ≡ story db (taken mid)) (leaves : Leaves db mid new after) where
  looked : after ≡ before → Looks db old new
  looked same = looks db old mid new after enters (same ∙ took) leaves

  -- where the core is the same, the pass has seen it as it was
  same_state : after ≡ before → state before ≡ known db new
  same_state same = ap state (sym same ∙ leaves.left)

  full : (call : Call) → LacksCoreRoom before after call → LacksRoom db old new call
  full call is = record { looks = looked is.same; full = subst (λ (s : State). ¬ HasRoom s call) (same_state is.same) is.full }

  short : (call : Call) → CoreLacksMemory before after call → LacksMemory db old new call
  short call is = record { looks = looked is.same; room = subst (λ (s : State). HasRoom s call) (same_state is.same) is.room }

  made : (caller : ℕ) (call : Call) (answer : Answer) → caller ≡ mid.number → Adds before after (event_of caller call answer) → Makes db old new call answer
  made caller call answer mine adds =
      makes db old mid new after call answer enters (subst (λ (s : Story). Adds s after (event_of mid.number call answer)) took (subst (λ (n : ℕ). Adds before after (event_of n call answer)) mine adds)) leaves

  pinned : (caller : ℕ) (call : Call) (pin : PinFacts) → caller ≡ mid.number → CorePins before after caller call pin → Pins db old new call pin
  pinned caller call pin mine is = record {
    makes = made caller call (Pinned pin.number pin.version) mine is.adds;
    has = record {
      mine = is.caller_is ∙ mine ∙ sym leaves.on.number;
      is_pin = subst (λ (s : Story). IsPinOf s pin) leaves.left is.is_pin;
    };
  }

  pub has_pinned : (caller : ℕ) (r : Result PinFacts PinError) → caller ≡ mid.number → PinsHead before after caller r → HasPinned db old new r
  has_pinned caller (Ok pin) mine is = pinned caller Pin pin mine is
  has_pinned caller (Err PinFull) mine is = full Pin is
  has_pinned caller (Err PinNoMemory) mine is = short Pin is

  pub has_pinned_at : (caller wanted : ℕ) (r : Result PinFacts PinAtError) → caller ≡ mid.number → PinsAt before after caller wanted r → HasPinnedAt db old new wanted r
  has_pinned_at caller wanted (Ok pin) mine is = pinned caller (PinAt wanted) pin mine is
  has_pinned_at caller wanted (Err (NoVersion last)) mine is = made caller (PinAt wanted) _ mine is
  has_pinned_at caller wanted (Err (Gone least)) mine is = made caller (PinAt wanted) _ mine is
  has_pinned_at caller wanted (Err PinAtFull) mine is = full (PinAt wanted) is
  has_pinned_at caller wanted (Err PinAtNoMemory) mine is = short (PinAt wanted) is

  pub has_collected : (caller : ℕ) (r : Result ℕ CollectError) → caller ≡ mid.number → Collects before after caller r → HasCollected db old new r
  has_collected caller (Ok dropped) mine is = made caller Collect (Collected dropped) mine is
  has_collected caller (Err CollectFull) mine is = full Collect is
  has_collected caller (Err CollectNoMemory) mine is = short Collect is

  pub has_released : (pin : PinFacts) → HasPin db old pin → Releases before after pin → HasReleased db old new pin
  has_released pin has is = made pin.caller (Release pin.number) Released (has.mine ∙ sym enters.number) is

  refused : (tx : TxFacts) (error : CommitError) → tx.pin.caller ≡ mid.number → IsCoreRefused before after tx error → IsRefused db old new tx error
  refused tx CommitFull mine is = full (commit_of tx) is
  refused tx (Conflict object w) mine is = made tx.pin.caller (commit_of tx) _ mine is
  refused tx CommitNoMemory mine is = short (commit_of tx) is

  pub has_committed : (tx : TxFacts) (r : Result (ℕ × PinFacts) (CommitError × TxFacts)) → IsReady db old → HasPin db old tx.pin → Commits before after tx r → HasCommitted db old new tx r
  has_committed tx (Ok done) ready has is =
      let made_it = made tx.pin.caller (commit_of tx) (Committed done.0 tx.replies) (has.mine ∙ sym enters.number) is.adds in
      (made_it, is.pin_is, stays_making db old new (commit_of tx) (Committed done.0 tx.replies) tx.pin ready made_it (λ e. cc) has)
  has_committed tx (Err back) ready has is = (refused tx back.0 (has.mine ∙ sym enters.number) is.1, is.0)

-- a pin that the pass has is one of the core that it takes
pub pin_in_turn : (db : Shared) (old mid : Pass) (before : Story) (pin : PinFacts) → IsReady db old → Enters db old mid → before ≡ story db (taken mid) → HasPin db old pin → IsPinOf before pin
pin_in_turn db old mid before pin ready enters took has =
    let own : entries_of maker old.number (taken mid) ≡ old.own ++ [] =
    (λ k. entries_of maker (sym enters.number k) (taken mid)) ∙ sym enters.turn.log.1 ∙ enters.own ∙ sym (append-nil old.own) in
    let prefix : IsPrefix old.seen (taken mid) = subst (λ (xs : List Event). IsPrefix xs (taken mid)) enters.seen enters.turn.log.0 in
    subst (λ (s : Story). IsPinOf s pin) (sym took)
    (pin_at_log db old (taken mid) [] pin ready enters.turn.history.legal prefix own (All-nil (λ (e : Event). ¬ (e.call ≡ Release pin.number))) has)
