-- How many pins have room.
use Rattle.std.proofs.Common.{◌≡◌, ℕ, zero, suc, ◌+◌, ◌*◌, ◌<◌, ◌≤◌, ◌==◌, not, cond, false, List, [], ◌∷◌, ◌++◌, length, filter, Contains, refl, ap, sym, ◌∙◌, subst, arith, length-append}
use Rattle.std.proofs.lemmas.Bool.Decides.{nat_tests}
use Rattle.netlist_schema.specs.Design.{Design}
use Rattle.db_spec.specs.declared.event.Answer.TheVariants.{Pinned, Released}
use Rattle.db_spec.specs.declared.event.Call.TheVariants.{Pin, Release}
use Rattle.db_spec.specs.declared.event.Event.{Event}
use Rattle.db_spec.specs.Answers.{Admits}
use Rattle.db_spec.specs.Example.{event}
use Rattle.db_spec.specs.ExampleRoom.{HavePins, HaveRounds, held_pins, rounds}
use Rattle.db_spec.specs.History.{Legal, state_after}
use Rattle.db_spec.specs.State.{State, LivePin, after, head, live_pin}
use Rattle.db_spec.proofs.Histories.{legal-push, state_after-push}

-- the state after n pins, of which these are live, and these events
record Holds (s : State) (made events : ℕ) (pins : List LivePin) : Type 0 where
  made_so_far : s.made ≡ made
  counted : s.events ≡ events
  live : s.pins ≡ pins
  no_commit : head s ≡ 0

abbrev a_pin : ℕ → Event
a_pin n = event 0 Pin (Pinned n 0)

abbrev a_release : ℕ → Event
a_release n = event 0 (Release n) Released

pin_admitted : (s : State) (n events : ℕ) (pins : List LivePin) → events + length pins + 2 ≤ 4194304 → Holds s n events pins → Admits s (a_pin n)
pin_admitted s n events pins room h =
    let count = h.counted in
    let many = ap length h.live in
    record { room = omega arith; callers = tt; answers = (sym h.made_so_far, sym h.no_commit) }

pin_made : (s : State) (n events : ℕ) (pins : List LivePin) → Holds s n events pins → Holds (after s (a_pin n)) (n + 1) (events + 1) (pins ++ live_pin n 0 0 ∷ [])
pin_made s n events pins h = record {
  made_so_far = ap (λ m. m + 1) h.made_so_far;
  counted = ap (λ m. m + 1) h.counted;
  live = ap (λ (ps : List LivePin). ps ++ live_pin s.made 0 0 ∷ []) h.live ∙ ap (λ m. pins ++ live_pin m 0 0 ∷ []) h.made_so_far;
  no_commit = h.no_commit;
}

itself : (n : ℕ) → not (n == n) ≡ false
itself n = grind (arith, nat_tests)

release_admitted : (s : State) (made n events : ℕ) → Holds s made events (live_pin n 0 0 ∷ []) → Admits s (a_release n)
release_admitted s made n events h = record {
  room = tt;
  callers = (0, subst (λ (ps : List LivePin). Contains ps (live_pin n 0 0)) (sym h.live) (0, omega arith, refl));
  answers = tt;
}

release_made : (s : State) (made n events : ℕ) → Holds s made events (live_pin n 0 0 ∷ []) → Holds (after s (a_release n)) made (events + 1) []
release_made s made n events h = record {
  made_so_far = h.made_so_far;
  counted = ap (λ m. m + 1) h.counted;
  live = ap (filter (λ (pin : LivePin). not (pin.number == n))) h.live ∙ ap (λ b. cond b (live_pin n 0 0 ∷ []) []) (itself n);
  no_commit = h.no_commit;
}

-- ---- one after the other

record RoundsSoFar (d : Design) (n : ℕ) : Type 0 where
  legal : Legal d (rounds n)
  holds : Holds (state_after d (rounds n)) n (2 * n) []

append_two : (xs : List Event) (x y : Event) → xs ++ x ∷ y ∷ [] ≡ (xs ++ x ∷ []) ++ y ∷ []
append_two [] x y = refl
append_two (z ∷ xs) x y = ap (λ (ys : List Event). z ∷ ys) (append_two xs x y)

one_round : (d : Design) (n : ℕ) → n < 2097152 → RoundsSoFar d n → RoundsSoFar d (suc n)
one_round d n lt so_far =
    let s = state_after d (rounds n) in
    let pinned = rounds n ++ a_pin n ∷ [] in
    let legal_pinned = legal-push d (rounds n) (a_pin n) so_far.legal (pin_admitted s n (2 * n) [] (omega arith) so_far.holds) in
    let after_pin : Holds (state_after d pinned) (n + 1) (2 * n + 1) (live_pin n 0 0 ∷ []) =
    subst (λ (t : State). Holds t (n + 1) (2 * n + 1) (live_pin n 0 0 ∷ [])) (sym (state_after-push d (rounds n) (a_pin n))) (pin_made s n (2 * n) [] so_far.holds) in
    let legal_released = legal-push d pinned (a_release n) legal_pinned (release_admitted (state_after d pinned) (n + 1) n (2 * n + 1) after_pin) in
    let after_release : Holds (state_after d (pinned ++ a_release n ∷ [])) (n + 1) (2 * n + 1 + 1) [] =
    subst (λ (t : State). Holds t (n + 1) (2 * n + 1 + 1) []) (sym (state_after-push d pinned (a_release n))) (release_made (state_after d pinned) (n + 1) n (2 * n + 1) after_pin) in
    let same = append_two (rounds n) (a_pin n) (a_release n) in
    let next : n + 1 ≡ suc n = omega arith in
    let twice : 2 * n + 1 + 1 ≡ 2 * suc n = omega arith in record {
      legal = subst (Legal d) (sym same) legal_released;
      holds = subst (λ (xs : List Event). Holds (state_after d xs) (suc n) (2 * suc n) []) (sym same)
          (subst (λ (m : ℕ). Holds (state_after d (pinned ++ a_release n ∷ [])) m (2 * suc n) []) next
          (subst (λ (m : ℕ). Holds (state_after d (pinned ++ a_release n ∷ [])) (n + 1) m []) twice after_release));
    }

rounds_so_far : (d : Design) (n : ℕ) → n ≤ 2097152 → RoundsSoFar d n
rounds_so_far d zero le = record { legal = tt; holds = record { made_so_far = refl; counted = omega arith; live = refl; no_commit = refl } }
rounds_so_far d (suc n) le = one_round d n (omega arith) (rounds_so_far d n (omega arith))

pub have_rounds : (d : Design) (n : ℕ) → n ≤ 2097152 → HaveRounds d n
have_rounds d n le =
    let so_far = rounds_so_far d n le in
    let holds = so_far.holds in
    let count = holds.counted in
    let none = ap length holds.live in record {
      legal = so_far.legal;
      events = holds.counted;
      live = holds.live;
      room_for_a_pin = (λ room. omega arith, λ lt. omega arith);
      room_for_a_collect = (λ room. omega arith, λ lt. omega arith);
    }

-- ---- all at once

record PinsSoFar (d : Design) (n : ℕ) : Type 0 where
  legal : Legal d (held_pins n)
  pins : List LivePin
  many : length pins ≡ n
  holds : Holds (state_after d (held_pins n)) n n pins

pins_so_far : (d : Design) (n : ℕ) → n ≤ 2097152 → PinsSoFar d n
pins_so_far d zero le = record { legal = tt; pins = []; many = refl; holds = record { made_so_far = refl; counted = refl; live = refl; no_commit = refl } }
pins_so_far d (suc n) le =
    let so_far = pins_so_far d n (omega arith) in
    let s = state_after d (held_pins n) in
    let before = so_far.pins in
    let many = so_far.many in
    let all = before ++ live_pin n 0 0 ∷ [] in
    let next : n + 1 ≡ suc n = omega arith in record {
      legal = legal-push d (held_pins n) (a_pin n) so_far.legal (pin_admitted s n n before (omega arith) so_far.holds);
      pins = all;
      many = omega (arith, length-append before (live_pin n 0 0 ∷ []));
      holds = subst (λ (m : ℕ). Holds (state_after d (held_pins (suc n))) m m all) next
          (subst (λ (t : State). Holds t (n + 1) (n + 1) all) (sym (state_after-push d (held_pins n) (a_pin n))) (pin_made s n n before so_far.holds));
    }

pub have_pins : (d : Design) (n : ℕ) → n ≤ 2097152 → HavePins d n
have_pins d n le =
    let so_far = pins_so_far d n le in
    let holds = so_far.holds in
    let count = holds.counted in
    let many = so_far.many in
    let live = ap length holds.live in record {
      legal = so_far.legal;
      events = holds.counted;
      live = live ∙ many;
      room_for_a_pin = (λ room. omega arith, λ lt. omega arith);
    }
