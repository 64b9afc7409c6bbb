-- What seats hold stays theirs as the history goes on.
use Rattle.std.proofs.Common.{◌≡◌, ℕ, List, [], ◌∷◌, zero, suc, refl, sym, ap, ◌∙◌, subst, arith}
use Rattle.std.specs.Prelude.{Option, None, Some, replicate, set, slice_get, Result, Ok, Err}
use Rattle.std.proofs.lemmas.List.{length-replicate, length-set, set-set}
use Rattle.edit_tx.specs.Facts.{PinFacts, TxFacts}
use Rattle.db_spec.specs.Laws.{IsReleaseOf}
use Rattle.db_spec.specs.declared.event.Answer.TheVariants.{Pinned, Collected, Committed, Conflict as Conflicted, Released, NoVersion as NoSuchVersion, Gone as IsGone}
use Rattle.db_spec.specs.declared.event.Call.{Call}
use Rattle.db_spec.specs.declared.event.Call.TheVariants.{Collect, Commit, Pin, PinAt, Release}
use Rattle.db_spec.specs.declared.event.Event.{Event}
use Rattle.db_core.specs.Calls.{Accepts, Adds, Collects, IsRefused, Pins, PinsAt, PinsHead, Releases, commit_event, event_of}
use Rattle.db_core.specs.Story.{Story, IsHistory}
use Rattle.db_core.specs.declared.errors.CollectError.{CollectError}
use Rattle.db_core.specs.declared.errors.CollectError.TheVariants.{LogFull as CollectFull, NoMemory as CollectNoMemory}
use Rattle.db_core.specs.declared.errors.CommitError.{CommitError}
use Rattle.db_core.specs.declared.errors.CommitError.TheVariants.{LogFull as CommitFull, Conflict, NoMemory as CommitNoMemory}
use Rattle.db_core.specs.declared.errors.PinAtError.{PinAtError}
use Rattle.db_core.specs.declared.errors.PinAtError.TheVariants.{LogFull as PinAtFull, NoVersion, Gone, NoMemory as PinAtNoMemory}
use Rattle.db_core.specs.declared.errors.PinError.{PinError}
use Rattle.db_core.specs.declared.errors.PinError.TheVariants.{LogFull as PinFull, NoMemory as PinNoMemory}
use Rattle.db_core.proofs.Staying.{pin_stays_on}
use Rattle.netdb_desk.proofs.Rows.{set_same}
use Rattle.netdb_desk.specs.Seats.{DeskFacts, IsDesk, IsHeldBy, IsPinAt}
use Rattle.netdb_desk.specs.declared.held.Held.{Held}
use Rattle.netdb_desk.specs.declared.held.Held.TheVariants.{Nothing, OnPin, InTx}
use Rattle.netdb_desk.specs.declared.limits.TheConstants.{SEATS}

abbrev pub desk : Story → List Held → DeskFacts
desk story seats = record { story = story; seats = seats }

-- ---- one seat turned

at_set : (seats : List Held) (seat k : ℕ) (held : Held) (Q : Option Held → Type 0) → Q (slice_get seats k) → (k ≡ seat → Q (Some held)) → Q (slice_get (set seats seat held) k)
at_set [] seat k held Q was new = was
at_set (h ∷ hs) zero zero held Q was new = new refl
at_set (h ∷ hs) zero (suc k) held Q was new = was
at_set (h ∷ hs) (suc seat) zero held Q was new = was
at_set (h ∷ hs) (suc seat) (suc k) held Q was new = at_set hs seat k held Q was (λ e. new (ap suc e))

-- what is put into a seat is its own
pub desk_with : (story : Story) (seats : List Held) (seat : ℕ) (held : Held) → IsDesk (desk story seats) → IsHeldBy story seat (Some held) → IsDesk (desk story (set seats seat held))
desk_with story seats seat held is own = record {
  many = length-set seats seat held ∙ is.many;
  held = λ k. at_set seats seat k held (IsHeldBy story k) (is.held k) (λ e. subst (λ (n : ℕ). IsHeldBy story n (Some held)) (sym e) own);
}

-- seats that hold nothing
nothing_at : (story : Story) (seat n k : ℕ) → IsHeldBy story seat (slice_get (replicate n Nothing) k)
nothing_at story seat zero k = tt
nothing_at story seat (suc n) zero = tt
nothing_at story seat (suc n) (suc k) = nothing_at story seat n k

pub desk_opened : (story : Story) (seats : List Held) → seats ≡ replicate SEATS Nothing → IsDesk (desk story seats)
desk_opened story seats e = subst (λ (l : List Held). IsDesk (desk story l)) (sym e) (record {
  many = length-replicate SEATS Nothing;
  held = λ k. nothing_at story k SEATS k;
})

-- what was taken out of a seat and put back leaves all as it was
pub put_back : (seats : List Held) (seat : ℕ) (held : Held) → Some held ≡ slice_get seats seat → set (set seats seat Nothing) seat held ≡ seats
put_back seats seat held e = set-set seats seat Nothing held ∙ set_same seats seat held (sym e)

-- ---- an event more

pin_stays_at : (old new : Story) (event : Event) (seat : ℕ) (pin : PinFacts) → IsHistory old → Adds old new event → ¬ IsReleaseOf pin.caller pin.number event → IsPinAt old seat pin → IsPinAt new seat pin
pin_stays_at old new event seat pin history adds other is = record { is_pin = pin_stays_on old new event pin history.legal adds other is.is_pin; caller = is.caller }

held_stays : (old new : Story) (event : Event) (seat : ℕ) (held : Option Held) → IsHistory old → Adds old new event → ((number : ℕ) → ¬ (event.call ≡ Release number)) → IsHeldBy old seat held → IsHeldBy new seat held
held_stays old new event seat None history adds other is = tt
held_stays old new event seat (Some Nothing) history adds other is = tt
held_stays old new event seat (Some (OnPin pin)) history adds other is = pin_stays_at old new event seat pin history adds (λ r. other pin.number r.1) is
held_stays old new event seat (Some (InTx tx)) history adds other is = pin_stays_at old new event seat tx.pin history adds (λ r. other tx.pin.number r.1) is

-- an event that is no release leaves all seats what they hold
pub desk_stays : (old new : Story) (event : Event) (seats : List Held) → IsHistory old → Adds old new event → ((number : ℕ) → ¬ (event.call ≡ Release number)) → IsDesk (desk old seats) → IsDesk (desk new seats)
desk_stays old new event seats history adds other is = record {
  many = is.many;
  held = λ k. held_stays old new event k (slice_get seats k) history adds other (is.held k);
}

-- a release leaves the other seats what they hold
abbrev HoldsNothing : Option Held → Type 0
HoldsNothing None = Unit {0}
HoldsNothing (Some Nothing) = Unit {0}
HoldsNothing (Some (OnPin pin)) = ⊥
HoldsNothing (Some (InTx tx)) = ⊥

released : (old new : Story) (pin : PinFacts) (seat k : ℕ) (held : Option Held) → IsHistory old → Releases old new pin → pin.caller ≡ seat → (k ≡ seat → HoldsNothing held) → IsHeldBy old k held → IsHeldBy new k held
released old new pin seat k None history releases caller empty is = tt
released old new pin seat k (Some Nothing) history releases caller empty is = tt
released old new pin seat k (Some (OnPin other)) history releases caller empty is =
    pin_stays_at old new (event_of pin.caller (Release pin.number) Released) k other history releases (λ r. empty (sym is.caller ∙ (sym r.0 ∙ caller))) is
released old new pin seat k (Some (InTx tx)) history releases caller empty is =
    pin_stays_at old new (event_of pin.caller (Release pin.number) Released) k tx.pin history releases (λ r. empty (sym is.caller ∙ (sym r.0 ∙ caller))) is

empty_at : (seats : List Held) (seat k : ℕ) → k ≡ seat → HoldsNothing (slice_get (set seats seat Nothing) k)
empty_at [] seat k e = tt
empty_at (h ∷ hs) zero zero e = tt
empty_at (h ∷ hs) zero (suc k) e = absurd (omega (arith, e))
empty_at (h ∷ hs) (suc seat) zero e = absurd (omega (arith, e))
empty_at (h ∷ hs) (suc seat) (suc k) e = empty_at hs seat k (omega (arith, e))

pub desk_released : (old new : Story) (pin : PinFacts) (seat : ℕ) (seats : List Held) → IsHistory old → Releases old new pin → IsPinAt old seat pin → IsDesk (desk old (set seats seat Nothing)) → IsDesk (desk new (set seats seat Nothing))
desk_released old new pin seat seats history releases at is = record {
  many = is.many;
  held = λ k. released old new pin seat k (slice_get (set seats seat Nothing) k) history releases at.caller (empty_at seats seat k) (is.held k);
}

-- ---- the calls

-- no call but a release is one
abbrev IsRelease : Call → Type 0
IsRelease (Release number) = Unit {0}
IsRelease call = ⊥

no_release : (call : Call) → ¬ IsRelease call → (number : ℕ) → ¬ (call ≡ Release number)
no_release call other number e = other (subst IsRelease (sym e) tt)

-- a pin is made, and put into a seat
pub desk_pins : (old new : Story) (seats : List Held) (seat : ℕ) (pin : PinFacts) → IsHistory old → Pins old new seat Pin pin → IsDesk (desk old seats) → IsDesk (desk new (set seats seat (OnPin pin)))
desk_pins old new seats seat pin history pins is =
    desk_with new seats seat (OnPin pin) (desk_stays old new (event_of seat Pin (Pinned pin.number pin.version)) seats history pins.adds (no_release Pin (λ r. r)) is)
    (record { is_pin = pins.is_pin; caller = pins.caller_is })

pub desk_pins_at : (old new : Story) (seats : List Held) (seat wanted : ℕ) (pin : PinFacts) → IsHistory old → Pins old new seat (PinAt wanted) pin → IsDesk (desk old seats) → IsDesk (desk new (set seats seat (OnPin pin)))
desk_pins_at old new seats seat wanted pin history pins is =
    desk_with new seats seat (OnPin pin) (desk_stays old new (event_of seat (PinAt wanted) (Pinned pin.number pin.version)) seats history pins.adds (no_release (PinAt wanted) (λ r. r)) is)
    (record { is_pin = pins.is_pin; caller = pins.caller_is })

-- a pin is refused
same_desk : (old new : Story) (seats : List Held) → new ≡ old → IsDesk (desk old seats) → IsDesk (desk new seats)
same_desk old new seats e is = subst (λ (s : Story). IsDesk (desk s seats)) (sym e) is

pub desk_unpinned : (old new : Story) (seats : List Held) (seat : ℕ) (error : PinError) → PinsHead old new seat (Err error) → IsDesk (desk old seats) → IsDesk (desk new seats)
desk_unpinned old new seats seat PinFull p is = same_desk old new seats p.same is
desk_unpinned old new seats seat PinNoMemory p is = same_desk old new seats p.same is

pub desk_unpinned_at : (old new : Story) (seats : List Held) (seat wanted : ℕ) (error : PinAtError) → IsHistory old → PinsAt old new seat wanted (Err error) → IsDesk (desk old seats) → IsDesk (desk new seats)
desk_unpinned_at old new seats seat wanted PinAtFull history p is = same_desk old new seats p.same is
desk_unpinned_at old new seats seat wanted PinAtNoMemory history p is = same_desk old new seats p.same is
desk_unpinned_at old new seats seat wanted (NoVersion last) history p is = desk_stays old new (event_of seat (PinAt wanted) (NoSuchVersion last)) seats history p (no_release (PinAt wanted) (λ r. r)) is
desk_unpinned_at old new seats seat wanted (Gone least) history p is = desk_stays old new (event_of seat (PinAt wanted) (IsGone least)) seats history p (no_release (PinAt wanted) (λ r. r)) is

-- versions are dropped, or none
pub desk_collects : (old new : Story) (seats : List Held) (seat : ℕ) (answer : Result ℕ CollectError) → IsHistory old → Collects old new seat answer → IsDesk (desk old seats) → IsDesk (desk new seats)
desk_collects old new seats seat (Ok dropped) history c is = desk_stays old new (event_of seat Collect (Collected dropped)) seats history c (no_release Collect (λ r. r)) is
desk_collects old new seats seat (Err CollectFull) history c is = same_desk old new seats c.same is
desk_collects old new seats seat (Err CollectNoMemory) history c is = same_desk old new seats c.same is

-- a transaction is accepted, and its pin put into the seat
pub desk_commits : (old new : Story) (seats : List Held) (seat : ℕ) (tx : TxFacts) (version : ℕ) (pin : PinFacts) → IsHistory old → Accepts old new tx version pin → IsPinAt old seat tx.pin → IsDesk (desk old seats)
    → IsDesk (desk new (set seats seat (OnPin pin)))
desk_commits old new seats seat tx version pin history a at is =
    let no = no_release (Commit tx.pin.number tx.ops) (λ r. r) in
    desk_with new seats seat (OnPin pin) (desk_stays old new (commit_event tx (Committed version tx.replies)) seats history a.adds no is)
    (subst (λ (p : PinFacts). IsPinAt new seat p) (sym a.pin_is) (pin_stays_at old new (commit_event tx (Committed version tx.replies)) seat tx.pin history a.adds (λ r. no tx.pin.number r.1) at))

refused_desk : (old new : Story) (seats : List Held) (seat : ℕ) (tx : TxFacts) (error : CommitError) → IsHistory old → IsRefused old new tx error → IsPinAt old seat tx.pin → IsDesk (desk old seats)
    → IsDesk (desk new (set seats seat (InTx tx)))
refused_desk old new seats seat tx CommitFull history r at is = subst (λ (s : Story). IsDesk (desk s (set seats seat (InTx tx)))) (sym r.same) (desk_with old seats seat (InTx tx) is at)
refused_desk old new seats seat tx CommitNoMemory history r at is = subst (λ (s : Story). IsDesk (desk s (set seats seat (InTx tx)))) (sym r.same) (desk_with old seats seat (InTx tx) is at)
refused_desk old new seats seat tx (Conflict object w) history r at is =
    let no = no_release (Commit tx.pin.number tx.ops) (λ x. x) in
    desk_with new seats seat (InTx tx) (desk_stays old new (commit_event tx (Conflicted object w)) seats history r no is)
    (pin_stays_at old new (commit_event tx (Conflicted object w)) seat tx.pin history r (λ x. no tx.pin.number x.1) at)

-- one is refused, and put back
pub desk_goes_on : (old new : Story) (seats : List Held) (seat : ℕ) (tx back : TxFacts) (error : CommitError) → IsHistory old → (back ≡ tx) × IsRefused old new tx error → IsPinAt old seat tx.pin → IsDesk (desk old seats)
    → IsDesk (desk new (set seats seat (InTx back)))
desk_goes_on old new seats seat tx back error history r at is = subst (λ (t : TxFacts). IsDesk (desk new (set seats seat (InTx t)))) (sym r.0) (refused_desk old new seats seat tx error history r.1 at is)
