-- A pin of a pass stays live until the pass releases it, since all of the pass's events are known to it.
use Rattle.std.proofs.Common.{◌≡◌, ℕ, ◌==◌, inl, inr, List, [], ◌∷◌, ◌++◌, Contains, All, ap, sym, ◌∙◌, subst, arith, append_assoc}
use Rattle.std.proofs.lemmas.List.{append-nil}
use Rattle.std.proofs.lemmas.List.Elements.{All-cons, All-contains, All-nil, Contains-append_right, Contains-push}
use mathlib.Core.List.{IsPrefix}
use Rattle.netlist_schema.specs.Design.{Design}
use Rattle.edit_tx.specs.Facts.{PinFacts}
use Rattle.db_spec.specs.declared.event.Answer.{Answer}
use Rattle.db_spec.specs.declared.event.Answer.TheVariants.{Pinned}
use Rattle.db_spec.specs.declared.event.Call.{Call}
use Rattle.db_spec.specs.declared.event.Call.TheVariants.{Pin, PinAt, Release, Collect, Commit}
use Rattle.db_spec.specs.declared.event.Event.{Event}
use Rattle.db_spec.specs.Answers.{Admits, Answers}
use Rattle.db_spec.specs.History.{Legal, state_after}
use Rattle.db_spec.specs.Laws.{IsReleaseOf}
use Rattle.db_spec.specs.State.{State, IsLive, after, live_pin, opening}
use Rattle.db_spec.proofs.Histories.{legal-left, one_more_is_legal, state_after-push}
use Rattle.db_spec.proofs.Lists.{All-from_in, from_filter, in_cases}
use Rattle.db_spec.proofs.Staying.{pin_stays_live}
use Rattle.turn_cell.specs.Seats.{entries_of}
use Rattle.db_core.specs.Story.{IsPinOf}
use Rattle.db_core.specs.Calls.{event_of}
use Rattle.db_core.proofs.Staying.{pin_stays}
use Rattle.db_share.specs.Passes.{Shared, Pass, IsReady, HasPin, known, maker, story}
use Rattle.db_share.specs.Calls.{GoesOn, Looks, Makes}
use Rattle.db_share.proofs.Own.{no_release, rest_own}

-- the log goes on from what the pass has seen, and this is what it has more of the pass
pub pin_at_log : (db : Shared) (pass : Pass) (log more : List Event) (pin : PinFacts) → IsReady db pass → Legal db.base log → IsPrefix pass.seen log → entries_of maker pass.number log ≡ pass.own ++ more
    → All (λ event. ¬ (event.call ≡ Release pin.number)) more → HasPin db pass pin → IsPinOf (story db log) pin
pin_at_log db pass log more pin ready legal prefix own none has =
    let rest : List Event = prefix.0 in
    let is : pass.seen ++ rest ≡ log = prefix.1 in
    let left : entries_of maker pass.number rest ≡ more = rest_own pass.number pass.seen rest pass.own more ready.own (ap (entries_of maker pass.number) is ∙ own) in
    let nowhere : All (λ event. ¬ IsReleaseOf pin.caller pin.number event) rest =
    subst (λ (n : ℕ). All (λ event. ¬ IsReleaseOf n pin.number event) rest) (sym has.mine) (no_release pass.number pin.number rest more left none) in
    subst (λ (xs : List Event). IsPinOf (story db xs) pin) is (pin_stays (story db pass.seen) rest pin (subst (Legal db.base) (sym is) legal) has.is_pin nowhere)

-- over a call of the pass
over_call : (db : Shared) (old new : Pass) (more : List Event) (pin : PinFacts) → IsReady db old → GoesOn db old new → new.own ≡ old.own ++ more → All (λ event. ¬ (event.call ≡ Release pin.number)) more
    → HasPin db old pin → HasPin db new pin
over_call db old new more pin ready on own none has =
    let all : entries_of maker old.number new.seen ≡ old.own ++ more = ap (λ (n : ℕ). entries_of maker n new.seen) (sym on.number) ∙ (sym on.ready.own ∙ own) in record {
      mine = has.mine ∙ sym on.number;
      is_pin = pin_at_log db old new.seen more pin ready on.ready.history.legal on.seen all none has;
    }

pub stays_looking : (db : Shared) (old new : Pass) (pin : PinFacts) → IsReady db old → Looks db old new → HasPin db old pin → HasPin db new pin
stays_looking db old new pin ready looks has = over_call db old new [] pin ready looks.on (looks.own ∙ sym (append-nil old.own)) (All-nil (λ (event : Event). ¬ (event.call ≡ Release pin.number))) has

one_other : (number : ℕ) (event : Event) → ¬ (event.call ≡ Release number) → All (λ (e : Event). ¬ (e.call ≡ Release number)) (event ∷ [])
one_other number event other = All-cons (λ (e : Event). ¬ (e.call ≡ Release number)) event [] other (All-nil (λ (e : Event). ¬ (e.call ≡ Release number)))

pub stays_making : (db : Shared) (old new : Pass) (call : Call) (answer : Answer) (pin : PinFacts) → IsReady db old → Makes db old new call answer → ¬ (call ≡ Release pin.number) → HasPin db old pin → HasPin db new pin
stays_making db old new call answer pin ready makes other has =
    over_call db old new (event_of old.number call answer ∷ []) pin ready makes.on makes.own (one_other pin.number (event_of old.number call answer) other) has

-- ---- a pin that was answered

split_at : (xs : List Event) (x : Event) → Contains xs x → (front back : List Event) × (xs ≡ front ++ x ∷ back)
split_at [] x m = absurd (omega (arith, m.1))
split_at (y ∷ ys) x m = elim (in_cases y x ys m) [
  | inl e ↦ ([], ys, ap (λ (z : Event). z ∷ ys) e)
  | inr r ↦ let rest = split_at ys x r in (y ∷ rest.0, rest.1, ap (λ (zs : List Event). y ∷ zs) rest.2)
]

lives : (s : State) (caller number v : ℕ) → number ≡ s.made → Contains (s.pins ++ live_pin s.made caller v ∷ []) (live_pin number caller v)
lives s caller number v is = subst (λ (n : ℕ). Contains (s.pins ++ live_pin s.made caller v ∷ []) (live_pin n caller v)) (sym is) (Contains-push s.pins (live_pin s.made caller v))

live_then : (s : State) (caller : ℕ) (call : Call) (number v : ℕ) → Answers s caller call (Pinned number v) → IsLive (after s (event_of caller call (Pinned number v))) number caller v
live_then s caller Pin number v is = lives s caller number v is.0
live_then s caller (PinAt wanted) number v is = lives s caller number v is.2
live_then s caller (Release n) number v is = absurd is
live_then s caller Collect number v is = absurd is
live_then s caller (Commit n ops) number v is = absurd is

pub unreleased : (db : Shared) (pass : Pass) (call : Call) (number v : ℕ) → IsReady db pass → Contains pass.own (event_of pass.number call (Pinned number v))
    → All (λ (event : Event). ¬ (event.call ≡ Release number)) pass.own → IsLive (known db pass) number pass.number v
unreleased db pass call number v ready there none =
    let d : Design = db.base in
    let event : Event = event_of pass.number call (Pinned number v) in
    let seen : Contains pass.seen event = from_filter (λ (e : Event). maker e == pass.number) pass.seen event (subst (λ (xs : List Event). Contains xs event) ready.own there) in
    let parts = split_at pass.seen event seen in
    let front : List Event = parts.0 in
    let back : List Event = parts.1 in
    let whole : (front ++ event ∷ []) ++ back ≡ pass.seen = append_assoc front (event ∷ []) back ∙ sym parts.2 in
    let legal : Legal d ((front ++ event ∷ []) ++ back) = subst (Legal d) (sym whole) ready.history.legal in
    let admits : Admits (state_after d front) event = ((one_more_is_legal d front event).0 (legal-left (opening d) (front ++ event ∷ []) back legal)).1 in
    let live : IsLive (state_after d (front ++ event ∷ [])) number pass.number v =
    subst (λ (s : State). IsLive s number pass.number v) (sym (state_after-push d front event)) (live_then (state_after d front) pass.number call number v admits.answers) in
    let everywhere : All (λ (e : Event). ¬ IsReleaseOf pass.number number e) pass.seen = no_release pass.number number pass.seen pass.own (sym ready.own) none in
    let later : All (λ (e : Event). ¬ IsReleaseOf pass.number number e) back = All-from_in (λ (e : Event). ¬ IsReleaseOf pass.number number e) back
    (λ x here. All-contains (λ (e : Event). ¬ IsReleaseOf pass.number number e) pass.seen x everywhere
    (subst (λ (xs : List Event). Contains xs x) whole (Contains-append_right (front ++ event ∷ []) back x here))) in
    subst (λ (xs : List Event). IsLive (state_after d xs) number pass.number v) whole (pin_stays_live d (front ++ event ∷ []) back pass.number number v legal live later)
