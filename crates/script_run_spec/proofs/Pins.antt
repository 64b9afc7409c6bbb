-- The live pins of a caller are what its own calls make of them.
use Rattle.std.proofs.Common.{◌≡◌, ◌∙◌, ℕ, ◌≤◌, ◌==◌, not, cond, Bool, true, false, List, [], ◌∷◌, ◌++◌, filter, map, Contains, ⊎_elim, refl, ap, sym, subst, arith, append-nil}
use Rattle.std.proofs.lemmas.Bool.{cases_eq}
use Rattle.std.proofs.lemmas.Bool.Decides.{nat_tests}
use Rattle.std.proofs.lemmas.List.Elements.{filter-append}
use Rattle.netlist_schema.specs.Design.{Design}
use Rattle.db_spec.specs.Answers.{Answers, IsCallers}
use Rattle.db_spec.specs.History.{IsLegalFrom, Legal, state_after, state_from}
use Rattle.db_spec.specs.State.{State, LivePin, after, changed, head, live_pin, opening, IsLive}
use Rattle.db_spec.specs.declared.event.Answer.{Answer}
use Rattle.db_spec.specs.declared.event.Answer.TheVariants as answer
use Rattle.db_spec.specs.declared.event.Call.{Call}
use Rattle.db_spec.specs.declared.event.Call.TheVariants as call
use Rattle.db_spec.specs.declared.event.Event.{Event}
use Rattle.db_spec.proofs.Histories.{legal-left, legal-right, state_from-append}
use Rattle.db_spec.proofs.Lists.{from_filter, in_head, in_tail, to_filter}
use Rattle.db_spec.proofs.Sound.{IsFine, fine_after, fine_opening, is_sound, kept_up_after, one_pin}
use Rattle.script_spec.specs.Headline.{HoldsNone}
use Rattle.script_spec.specs.Session.{Exchange, Told, Held, Nothing, OnPin, OffPin, InBlock, exchanges, last_release, release}
use Rattle.script_spec.proofs.Stays.{filter_append}
use Rattle.script_run_spec.specs.Calls.{HoldsJust, Makes, held_pins, pins_of}

pub same_number : (n : ℕ) → (n == n) ≡ true
same_number n = grind (arith, nat_tests)

equal : (m n : ℕ) → (m == n) ≡ true → m ≡ n
equal m n e = grind (arith, nat_tests)

another : (m n : ℕ) → (m ≡ n → ⊥) → not (m == n) ≡ true
another m n e = grind (arith, nat_tests)

abbrev mine : ℕ → LivePin → Bool
mine caller pin = pin.caller == caller

abbrev stays_behind : ℕ → LivePin → Bool
stays_behind number pin = not (pin.number == number)

-- what a call of the caller makes of its live pins
abbrev pub pins_then : ℕ → List LivePin → Call → Answer → List LivePin
pins_then caller pins c (answer.Pinned number v) = pins ++ live_pin number caller v ∷ []
pins_then caller pins (call.Release number) answer.Released = filter (stays_behind number) pins
pins_then caller pins c a = pins

abbrev pub pins_along : ℕ → List LivePin → List Exchange → List LivePin
pins_along caller pins [] = pins
pins_along caller pins (Told c a ∷ rest) = pins_along caller (pins_then caller pins c a) rest

-- ---- lists

module _ {X : Type 0} where
  one_if_true : (b : Bool) (x : X) (test : X → Bool) → test x ≡ b → b ≡ true → filter test (x ∷ []) ≡ x ∷ []
  one_if_true b x test is pass = ap (λ c. cond c (x ∷ []) []) (is ∙ pass)

  none_if_false : (x : X) (test : X → Bool) → test x ≡ false → filter test (x ∷ []) ≡ []
  none_if_false x test is = ap (λ c. cond c (x ∷ []) []) is

  swapped : (p q : X → Bool) (xs : List X) → filter p (filter q xs) ≡ filter q (filter p xs)
  swapped p q [] = refl
  swapped p q (x ∷ xs) = one (p x) (q x) refl refl (swapped p q xs)
    where
      one : (a b : Bool) → p x ≡ a → q x ≡ b → filter p (filter q xs) ≡ filter q (filter p xs)
          → filter p (cond b (x ∷ filter q xs) (filter q xs)) ≡ filter q (cond a (x ∷ filter p xs) (filter p xs))
      one true true is at rest = ap (λ c. cond c (x ∷ filter p (filter q xs)) (filter p (filter q xs))) is ∙ ap (λ (ys : List X). x ∷ ys) rest ∙ sym (ap (λ c. cond c (x ∷ filter q (filter p xs)) (filter q (filter p xs))) at)
      one true false is at rest = rest ∙ sym (ap (λ c. cond c (x ∷ filter q (filter p xs)) (filter q (filter p xs))) at)
      one false true is at rest = ap (λ c. cond c (x ∷ filter p (filter q xs)) (filter p (filter q xs))) is ∙ rest
      one false false is at rest = rest

  -- those that a test takes all pass another one
  untouched : (p q : X → Bool) (xs : List X) → ((x : X) → Contains xs x → p x ≡ true → q x ≡ true) → filter p (filter q xs) ≡ filter p xs
  untouched p q [] each = refl
  untouched p q (x ∷ xs) each = one (p x) (q x) refl refl (untouched p q xs (λ y m is. each y (in_tail x y xs m) is))
    where
      one : (a b : Bool) → p x ≡ a → q x ≡ b → filter p (filter q xs) ≡ filter p xs
          → filter p (cond b (x ∷ filter q xs) (filter q xs)) ≡ cond a (x ∷ filter p xs) (filter p xs)
      one a true is at rest = ap (λ c. cond c (x ∷ filter p (filter q xs)) (filter p (filter q xs))) is ∙ ap (λ (ys : List X). cond a (x ∷ ys) ys) rest
      one true false is at rest = let pass = each x (in_head x xs) is in let never : true ≡ false = sym pass ∙ at in absurd (cc (never))
      one false false is at rest = rest

-- ---- one event

-- a pin of the caller's own that is made
made_own : (caller : ℕ) (s : State) (number v : ℕ) → number ≡ s.made → pins_of caller (changed s caller call.Pin (answer.Pinned number v)) ≡ pins_of caller s ++ live_pin number caller v ∷ []
made_own caller s number v is =
    filter-append (mine caller) s.pins (live_pin s.made caller v ∷ [])
    ∙ ap (λ (xs : List LivePin). pins_of caller s ++ xs) (one_if_true (caller == caller) (live_pin s.made caller v) (mine caller) refl (same_number caller))
    ∙ ap (λ (n : ℕ). pins_of caller s ++ live_pin n caller v ∷ []) (sym is)

-- the caller's own call
own_call : (caller : ℕ) (s : State) (c : Call) (a : Answer) → Answers s caller c a → pins_of caller (changed s caller c a) ≡ pins_then caller (pins_of caller s) c a
own_call caller s call.Pin (answer.Pinned number v) x = made_own caller s number v x.0
own_call caller s (call.PinAt w) (answer.Pinned number v) x = made_own caller s number v x.2
own_call caller s (call.Release p) (answer.Pinned number v) x = absurd x
own_call caller s call.Collect (answer.Pinned number v) x = absurd x
own_call caller s (call.Commit p ops) (answer.Pinned number v) x = absurd x
own_call caller s (call.Release number) answer.Released x = swapped (mine caller) (stays_behind number) s.pins
own_call caller s call.Collect (answer.Collected n) x = refl
own_call caller s (call.Commit p ops) (answer.Committed v replies) x = refl
own_call caller s c a x = refl

-- another caller's pin is not the caller's
made_by_another : (caller who : ℕ) (s : State) (v : ℕ) → (who == caller) ≡ false → filter (mine caller) (s.pins ++ live_pin s.made who v ∷ []) ≡ pins_of caller s
made_by_another caller who s v apart =
    filter-append (mine caller) s.pins (live_pin s.made who v ∷ [])
    ∙ ap (λ (xs : List LivePin). pins_of caller s ++ xs) (none_if_false (live_pin s.made who v) (mine caller) apart)
    ∙ append-nil (pins_of caller s)

-- another caller releases a pin of its own
released_by_another : (caller who : ℕ) (s : State) (number : ℕ) → IsFine s → IsCallers s who (call.Release number) → (who == caller) ≡ false
    → filter (mine caller) (filter (stays_behind number) s.pins) ≡ pins_of caller s
released_by_another caller who s number fine theirs differ =
    untouched (mine caller) (stays_behind number) s.pins (λ pin here is. ⊎_elim
    (λ (same : pin.number ≡ number).
    let held : IsLive s number who theirs.0 = theirs.1 in
    let this : IsLive s number pin.caller pin.version = subst (λ (n : ℕ). Contains s.pins (live_pin n pin.caller pin.version)) same here in
    let one = one_pin s number who theirs.0 pin.caller pin.version fine held this in
    let caller_is : who ≡ pin.caller = ap (λ (p : LivePin). p.caller) one in
    let same_caller : (who == caller) ≡ true = ap (λ n. n == caller) caller_is ∙ is in
    let both : true ≡ false = sym same_caller ∙ differ in absurd (cc (both)))
    (λ (apart : pin.number ≡ number → ⊥). another pin.number number apart)
    (cases_eq pin.number number))

-- another caller's call
other_call : (caller who : ℕ) (s : State) (c : Call) (a : Answer) → IsFine s → IsCallers s who c → (who == caller) ≡ false → pins_of caller (changed s who c a) ≡ pins_of caller s
other_call caller who s c (answer.Pinned number v) fine theirs differ = made_by_another caller who s v differ
other_call caller who s (call.Release number) answer.Released fine theirs differ = released_by_another caller who s number fine theirs differ
other_call caller who s call.Collect (answer.Collected n) fine theirs differ = refl
other_call caller who s (call.Commit p ops) (answer.Committed v replies) fine theirs differ = refl
other_call caller who s c a fine theirs differ = refl

-- ---- along a history

abbrev told : List Event → List Exchange
told events = map (λ (e : Event). Told e.call e.answer) events

pub along_own : (caller : ℕ) (s : State) (more : List Event) → IsFine s → IsLegalFrom s more → pins_of caller (state_from s more) ≡ pins_along caller (pins_of caller s) (exchanges caller more)
along_own caller s [] fine legal = refl
along_own caller s (event ∷ more) fine legal =
    let rest = along_own caller (after s event) more (fine_after s event fine legal.0) legal.1 in
    one (event.caller == caller) refl rest
  where
    others : List Event
    others = filter (λ e. e.caller == caller) more

    one : (b : Bool) → (event.caller == caller) ≡ b → pins_of caller (state_from (after s event) more) ≡ pins_along caller (pins_of caller (after s event)) (told others)
        → pins_of caller (state_from (after s event) more) ≡ pins_along caller (pins_of caller s) (told (cond b (event ∷ others) others))
    one true is rest =
        let at : event.caller ≡ caller = equal event.caller caller is in
        rest ∙ ap (λ (pins : List LivePin). pins_along caller pins (told others))
        (subst (λ (n : ℕ). pins_of caller (changed s n event.call event.answer) ≡ pins_then caller (pins_of caller s) event.call event.answer) (sym at)
        (own_call caller s event.call event.answer (subst (λ (n : ℕ). Answers s n event.call event.answer) at legal.0.answers)))
    one false is rest = rest ∙ ap (λ (pins : List LivePin). pins_along caller pins (told others)) (other_call caller event.caller s event.call event.answer fine legal.0.callers is)

-- ---- what calls make of what is held

-- the caller's calls after the history went on
pub own_after : (d : Design) (caller : ℕ) (old new : List Event) (done : List Exchange) → Makes d caller old new done → exchanges caller new ≡ exchanges caller old ++ done
own_after d caller old new done m =
    ap (exchanges caller) m.on ∙ filter_append caller old m.more ∙ ap (λ (xs : List Exchange). exchanges caller old ++ xs) m.own

pub legal_before : (d : Design) (caller : ℕ) (old new : List Event) (done : List Exchange) → Makes d caller old new done → Legal d old
legal_before d caller old new done m = legal-left (opening d) old m.more (subst (λ (xs : List Event). Legal d xs) m.on m.legal)

pub pins_after : (d : Design) (caller : ℕ) (old new : List Event) (done : List Exchange) → Makes d caller old new done
    → pins_of caller (state_after d new) ≡ pins_along caller (pins_of caller (state_after d old)) done
pins_after d caller old new done m =
    let legal : Legal d (old ++ m.more) = subst (λ (xs : List Event). Legal d xs) m.on m.legal in
    let fine = (kept_up_after d old (legal-left (opening d) old m.more legal)).fine in
    ap (λ (xs : List Event). pins_of caller (state_after d xs)) m.on
    ∙ ap (pins_of caller) (state_from-append (opening d) old m.more)
    ∙ along_own caller (state_after d old) m.more fine (legal-right (opening d) old m.more legal)
    ∙ ap (pins_along caller (pins_of caller (state_after d old))) m.own

-- the caller holds then what its calls make of what it held
pub holds_after : (d : Design) (caller : ℕ) (old new : List Event) (held next : Held) (done : List Exchange) → HoldsJust d old caller held → Makes d caller old new done
    → pins_along caller (held_pins caller held) done ≡ held_pins caller next → HoldsJust d new caller next
holds_after d caller old new held next done h m e =
    pins_after d caller old new done m ∙ ap (λ (pins : List LivePin). pins_along caller pins done) h ∙ e

-- its pin is gone with the release
pub one_released : (caller number v : ℕ) → pins_along caller (live_pin number caller v ∷ []) (release number ∷ []) ≡ []
one_released caller number v = none_if_false (live_pin number caller v) (stays_behind number) (ap not (same_number number))

pub released_all : (caller : ℕ) (held : Held) → pins_along caller (held_pins caller held) (last_release held) ≡ []
released_all caller Nothing = refl
released_all caller (OnPin pin v) = one_released caller pin v
released_all caller OffPin = refl
released_all caller (InBlock pin v retries ops) = one_released caller pin v

-- ---- pins that are live, and none

pub held_is_live : (d : Design) (seen : List Event) (caller number v : ℕ) → pins_of caller (state_after d seen) ≡ live_pin number caller v ∷ [] → IsLive (state_after d seen) number caller v
held_is_live d seen caller number v h =
    from_filter (mine caller) (state_after d seen).pins (live_pin number caller v)
    (subst (λ (pins : List LivePin). Contains pins (live_pin number caller v)) (sym h) (in_head (live_pin number caller v) []))

pub none_is_live : (d : Design) (seen : List Event) (caller : ℕ) → pins_of caller (state_after d seen) ≡ [] → HoldsNone d seen caller
none_is_live d seen caller h number v live =
    let here : Contains (pins_of caller (state_after d seen)) (live_pin number caller v) =
    to_filter (mine caller) (state_after d seen).pins (live_pin number caller v) (same_number caller) live in
    let none = subst (λ (pins : List LivePin). Contains pins (live_pin number caller v)) h here in
    absurd (omega (arith, none.1))

-- at the beginning
pub holds_nothing : (d : Design) (caller : ℕ) (seen : List Event) → Legal d seen → exchanges caller seen ≡ [] → HoldsJust d seen caller Nothing
holds_nothing d caller seen legal none =
    along_own caller (opening d) seen (fine_opening d) legal ∙ ap (pins_along caller []) none

-- the version of a pin that is held is there
pub live_is_there : (d : Design) (seen : List Event) (caller number v : ℕ) → Legal d seen → IsLive (state_after d seen) number caller v → v ≤ head (state_after d seen)
live_is_there d seen caller number v legal live =
    let sound = is_sound d seen legal in sound.there v (sound.pinned_kept (live_pin number caller v) live)
