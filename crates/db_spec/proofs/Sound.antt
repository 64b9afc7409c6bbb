-- The numbers of states along a legal history.
use Rattle.std.proofs.Common.{◌≡◌, ℕ, ◌+◌, ◌<◌, ◌≤◌, ◌==◌, not, true, List, [], ◌∷◌, ◌++◌, length, Contains, ◌⊎◌, inl, inr, refl, ap, sym, subst, arith, length-append, ◌↔◌}
use Rattle.std.proofs.lemmas.Bool.Decides.{nat_tests}
use Rattle.std.proofs.lemmas.List.Elements.{Contains-push, Contains-push_cases, Contains-append_left}
use Rattle.std.proofs.lemmas.Bool.{or_left, or_right, or_cases}
use Rattle.netlist_schema.specs.Design.{Design}
use Rattle.edit_rules_spec.proofs.Lists.{length_filter}
use Rattle.db_spec.specs.declared.event.Call.{Call}
use Rattle.db_spec.specs.declared.event.Call.TheVariants.{Pin, PinAt, Release, Collect, Commit}
use Rattle.db_spec.specs.declared.event.Answer.{Answer}
use Rattle.db_spec.specs.declared.event.Answer.TheVariants.{Pinned, NoVersion, Gone, Released, Collected, Committed, Conflict}
use Rattle.db_spec.specs.declared.event.Event.{Event}
use Rattle.db_spec.specs.State.{State, LivePin, opening, head, live_pin, IsLive, is_pinned, stays, changed, committed, next_version, after, collected}
use Rattle.db_spec.specs.Answers.{IsKept, Answers, HasRoom, IsCallers, Admits, places, most_events}
use Rattle.db_spec.specs.History.{IsLegalFrom, Legal, state_from, state_after}
use Rattle.edit_spec.specs.declared.ops.Op.{Op}
use Rattle.db_spec.specs.Laws.{IsSound}
use Rattle.db_spec.proofs.Histories.{along}
use Rattle.db_spec.proofs.Kept.{few_rising, greatest_last}
use Rattle.db_spec.proofs.Lists.{in_cases, Rises, rises_push, rises_filter, rises_pairs, from_filter, to_filter, filter_test, in_any, any_in, one_goes, one_by_number}

-- what an event keeps; the numbers of events are left out, so that it also speaks of a state before its event is counted
pub record IsFine (s : State) : Type 0 where
  pub live : length s.pins ≤ s.made
  pub numbered : (pin : LivePin) → Contains s.pins pin → pin.number < s.made
  pub rising : Rises (λ (pin : LivePin). pin.number) s.pins
  pub there : (v : ℕ) → IsKept s v → v ≤ head s
  pub ascending : Rises (λ (v : ℕ). v) s.kept
  pub head_kept : IsKept s (head s)
  pub pinned_kept : (pin : LivePin) → Contains s.pins pin → IsKept s pin.version

fine_pinned : (s : State) (caller v : ℕ) (call : Call) (number : ℕ) → IsKept s v → IsFine s → IsFine (changed s caller call (Pinned number v))
fine_pinned s caller v call number kept h = record {
  live = let le = h.live in omega (arith, length-append s.pins (live_pin s.made caller v ∷ []));
  numbered = λ pin m. elim (Contains-push_cases s.pins (live_pin s.made caller v) pin m) [
    | inl old ↦ let lt = h.numbered pin old in omega arith
    | inr is ↦ let at = ap (λ (x : LivePin). x.number) is in omega arith
  ];
  rising = rises_push (λ (pin : LivePin). pin.number) s.pins (live_pin s.made caller v) h.numbered h.rising;
  there = h.there;
  ascending = h.ascending;
  head_kept = h.head_kept;
  pinned_kept = λ pin m. elim (Contains-push_cases s.pins (live_pin s.made caller v) pin m) [
    | inl old ↦ h.pinned_kept pin old
    | inr is ↦ subst (λ (x : LivePin). IsKept s x.version) is kept
  ];
}

fine_released : (s : State) (caller number : ℕ) → IsFine s → IsFine (changed s caller (Release number) Released)
fine_released s caller number h = record {
  live = let le = h.live in let less = length_filter (λ (pin : LivePin). not (pin.number == number)) s.pins in omega arith;
  numbered = λ pin m. h.numbered pin (from_filter (λ (q : LivePin). not (q.number == number)) s.pins pin m);
  rising = rises_filter (λ (pin : LivePin). pin.number) (λ (q : LivePin). not (q.number == number)) s.pins h.rising;
  there = h.there;
  ascending = h.ascending;
  head_kept = h.head_kept;
  pinned_kept = λ pin m. h.pinned_kept pin (from_filter (λ (q : LivePin). not (q.number == number)) s.pins pin m);
}

itself : (n : ℕ) → (n == n) ≡ true
itself n = grind (arith, nat_tests)

head_stays : (s : State) → stays s (head s) ≡ true
head_stays s = or_left (head s == head s) (is_pinned s (head s)) (itself (head s))

pinned_stays : (s : State) (pin : LivePin) → Contains s.pins pin → stays s pin.version ≡ true
pinned_stays s pin m = or_right (pin.version == head s) (is_pinned s pin.version) (any_in (λ (q : LivePin). q.version == pin.version) s.pins pin m (itself pin.version))

fine_collected : (s : State) (caller count : ℕ) → IsFine s → IsFine (changed s caller Collect (Collected count))
fine_collected s caller count h = record {
  live = h.live;
  numbered = h.numbered;
  rising = h.rising;
  there = λ v m. h.there v (from_filter (stays s) s.kept v m);
  ascending = rises_filter (λ (v : ℕ). v) (stays s) s.kept h.ascending;
  head_kept = to_filter (stays s) s.kept (head s) (head_stays s) h.head_kept;
  pinned_kept = λ pin m. to_filter (stays s) s.kept pin.version (pinned_stays s pin m) (h.pinned_kept pin m);
}

fine_committed : (s : State) (ops : List Op) → IsFine s → IsFine (committed s ops)
fine_committed s ops h =
    let more : head (committed s ops) ≡ head s + 1 = length-append s.commits (next_version s ops ∷ []) in record {
      live = h.live;
      numbered = h.numbered;
      rising = h.rising;
      there = λ v m. elim (Contains-push_cases s.kept (head s + 1) v m) [
        | inl old ↦ let le = h.there v old in omega arith
        | inr is ↦ omega arith
      ];
      ascending = rises_push (λ (v : ℕ). v) s.kept (head s + 1) (λ v m. let le = h.there v m in omega arith) h.ascending;
      head_kept = subst (λ (v : ℕ). Contains (s.kept ++ (head s + 1) ∷ []) v) (sym more) (Contains-push s.kept (head s + 1));
      pinned_kept = λ pin m. Contains-append_left s.kept ((head s + 1) ∷ []) pin.version (h.pinned_kept pin m);
    }

fine_changed : (s : State) (caller : ℕ) (call : Call) (answer : Answer) → Answers s caller call answer → IsFine s → IsFine (changed s caller call answer)
fine_changed s caller Pin (Pinned number v) a h = fine_pinned s caller v Pin number (subst (λ (w : ℕ). IsKept s w) (sym a.1) h.head_kept) h
fine_changed s caller (PinAt wanted) (Pinned number v) a h = fine_pinned s caller v (PinAt wanted) number (subst (λ (w : ℕ). IsKept s w) (sym a.3) a.1) h
fine_changed s caller (Release n) (Pinned number v) a h = absurd a
fine_changed s caller Collect (Pinned number v) a h = absurd a
fine_changed s caller (Commit n ops) (Pinned number v) a h = absurd a
fine_changed s caller (Release number) Released a h = fine_released s caller number h
fine_changed s caller Collect (Collected count) a h = fine_collected s caller count h
fine_changed s caller (Commit number ops) (Committed v replies) a h = fine_committed s ops h
fine_changed s caller call answer a h = h

-- the record says nothing of the number of events
fine_counted : (s : State) (n : ℕ) → IsFine s → IsFine (record s { events = n })
fine_counted s n h = record {
  live = h.live;
  numbered = h.numbered;
  rising = h.rising;
  there = h.there;
  ascending = h.ascending;
  head_kept = h.head_kept;
  pinned_kept = h.pinned_kept;
}

pub fine_after : (s : State) (x : Event) → IsFine s → Admits s x → IsFine (after s x)
fine_after s x h admits = fine_counted (changed s x.caller x.call x.answer) (s.events + 1) (fine_changed s x.caller x.call x.answer admits.answers h)

pub fine_opening : (d : Design) → IsFine (opening d)
fine_opening d = record {
  live = omega arith;
  numbered = λ pin m. absurd (omega (arith, m.1));
  rising = tt;
  there = λ v m. low v m;
  ascending = (λ v m. absurd (omega (arith, m.1)), tt);
  head_kept = (0, omega arith, refl);
  pinned_kept = λ pin m. absurd (omega (arith, m.1));
}
  where
    low : (v : ℕ) → Contains (0 ∷ []) v → v ≤ 0
    low v m = elim (in_cases 0 v [] m) [
      | inl e ↦ omega arith
      | inr r ↦ absurd (omega (arith, r.1))
    ]

-- ---- how many pins, versions and places there are

-- an event makes one pin or one version at most, and takes its place
record IsCounted (s t : State) (events : ℕ) : Type 0 where
  made : t.made ≤ s.made + 1
  versions : head t ≤ head s + 1
  never_falls : s.events + length s.pins ≤ events + length t.pins
  within : events + length t.pins ≤ most_events

counted_same : (s : State) → places s + 1 ≤ most_events → IsCounted s s (s.events + 1)
counted_same s le = record { made = omega arith; versions = omega arith; never_falls = omega arith; within = omega arith }

counted_pinned : (s : State) (caller v : ℕ) (call : Call) (number : ℕ) → places s + 2 ≤ most_events → IsCounted s (changed s caller call (Pinned number v)) (s.events + 1)
counted_pinned s caller v call number le =
    let more = length-append s.pins (live_pin s.made caller v ∷ []) in
    record { made = omega arith; versions = omega arith; never_falls = omega arith; within = omega arith }

counted : (s : State) (caller : ℕ) (call : Call) (answer : Answer) → IsFine s → places s ≤ most_events → HasRoom s call → IsCallers s caller call → Answers s caller call answer
    → IsCounted s (changed s caller call answer) (s.events + 1)
counted s caller Pin (Pinned number v) h le room mine a = counted_pinned s caller v Pin number room
counted s caller (PinAt w) (Pinned number v) h le room mine a = counted_pinned s caller v (PinAt w) number room
counted s caller (PinAt w) (NoVersion last) h le room mine a = counted_same s (omega arith)
counted s caller (PinAt w) (Gone least) h le room mine a = counted_same s (omega arith)
counted s caller (Release number) Released h le room mine a =
    let less = one_goes (λ (pin : LivePin). pin.number) number s.pins (live_pin number caller mine.0) h.rising mine.1 refl in
    record { made = omega arith; versions = omega arith; never_falls = omega arith; within = omega arith }
counted s caller Collect (Collected count) h le room mine a = record { made = omega arith; versions = omega arith; never_falls = omega arith; within = omega arith }
counted s caller (Commit number ops) (Conflict object w) h le room mine a = counted_same s (omega arith)
counted s caller (Commit number ops) (Committed v replies) h le room mine a =
    let more = length-append s.commits (next_version s ops ∷ []) in
    record { made = omega arith; versions = omega arith; never_falls = omega arith; within = omega arith }
counted s caller call answer h le room mine a = absurd a

pub record IsKeptUp (s : State) : Type 0 where
  pub fine : IsFine s
  pub made : s.made ≤ s.events
  pub versions : head s ≤ s.events
  pub within : places s ≤ most_events

kept_up : (s : State) (x : Event) → IsKeptUp s → Admits s x → IsKeptUp (after s x)
kept_up s x h admits =
    let one = counted s x.caller x.call x.answer h.fine h.within admits.room admits.callers admits.answers in
    let made = one.made in
    let versions = one.versions in
    let before = h.made in
    let heads = h.versions in
    record { fine = fine_after s x h.fine admits; made = omega arith; versions = omega arith; within = one.within }

pub kept_up_opening : (d : Design) → IsKeptUp (opening d)
kept_up_opening d = record { fine = fine_opening d; made = omega arith; versions = omega arith; within = omega arith }

pub kept_up_from : (s : State) (xs : List Event) → IsKeptUp s → IsLegalFrom s xs → IsKeptUp (state_from s xs)
kept_up_from = along IsKeptUp kept_up

pub kept_up_after : (d : Design) (xs : List Event) → Legal d xs → IsKeptUp (state_after d xs)
kept_up_after d xs legal = kept_up_from (opening d) xs (kept_up_opening d) legal

pub never_falls : (s : State) (xs : List Event) → IsKeptUp s → IsLegalFrom s xs → places s ≤ places (state_from s xs)
never_falls s [] h legal = omega arith
never_falls s (x ∷ xs) h legal =
    let admits = legal.0 in
    let one = counted s x.caller x.call x.answer h.fine h.within admits.room admits.callers admits.answers in
    let first = one.never_falls in
    let rest = never_falls (after s x) xs (kept_up s x h admits) legal.1 in omega arith

pub is_sound : (d : Design) (xs : List Event) → Legal d xs → IsSound (state_after d xs)
is_sound d xs legal =
    let s = state_after d xs in
    let h = kept_up_after d xs legal in
    let f = h.fine in
    let live = f.live in
    let made = h.made in
    let within = h.within in
    let versions = h.versions in
    let kept = few_rising s.kept (head s) f.ascending f.there in
    record {
      few_made = h.made;
      few_versions = h.versions;
      few_kept = omega arith;
      few_live = omega arith;
      numbered = f.numbered;
      distinct = rises_pairs (λ (pin : LivePin). pin.number) s.pins f.rising;
      there = f.there;
      ascending = rises_pairs (λ (v : ℕ). v) s.kept f.ascending;
      head_kept = f.head_kept;
      head_last = greatest_last s.kept (head s) f.ascending f.head_kept f.there;
      pinned_kept = f.pinned_kept;
    }

-- a pin's number tells its caller and its version
pub one_pin : (s : State) (number caller v other w : ℕ) → IsFine s → IsLive s number caller v → IsLive s number other w → live_pin number caller v ≡ live_pin number other w
one_pin s number caller v other w h a b = one_by_number (λ (pin : LivePin). pin.number) s.pins (live_pin number caller v) (live_pin number other w) h.rising a b refl

-- ---- what a collect leaves

equal_numbers : (m n : ℕ) → (m == n) ≡ true → m ≡ n
equal_numbers m n e = grind (arith, nat_tests)

-- just the last version and those of live pins
pub collect_leaves : (d : Design) (xs : List Event) (v : ℕ) → Legal d xs
    → IsKept (collected (state_after d xs)) v ↔ ((v ≡ head (state_after d xs)) ⊎ ((number caller : ℕ) × IsLive (state_after d xs) number caller v))
collect_leaves d xs v legal = (left, right)
  where
    s : State
    s = state_after d xs

    left : IsKept (collected s) v → (v ≡ head s) ⊎ ((number caller : ℕ) × IsLive s number caller v)
    left m = elim (or_cases (v == head s) (is_pinned s v) (filter_test (stays s) s.kept v m)) [
      | inl e ↦ inl (equal_numbers v (head s) e)
      | inr e ↦
          let found = in_any (λ (pin : LivePin). pin.version == v) s.pins e in
          let pin = found.0 in
          let at : pin.version ≡ v = equal_numbers pin.version v found.2 in
          let live : IsLive s pin.number pin.caller pin.version = found.1 in
          inr (pin.number, pin.caller, subst (λ (w : ℕ). IsLive s pin.number pin.caller w) at live)
    ]

    right : (v ≡ head s) ⊎ ((number caller : ℕ) × IsLive s number caller v) → IsKept (collected s) v
    right (inl e) =
        let fine = (kept_up_after d xs legal).fine in
        subst (λ (w : ℕ). IsKept (collected s) w) (sym e) (to_filter (stays s) s.kept (head s) (head_stays s) fine.head_kept)
    right (inr live) =
        let fine = (kept_up_after d xs legal).fine in
        let pin = live_pin live.0 live.1 v in
        to_filter (stays s) s.kept v (pinned_stays s pin live.2) (fine.pinned_kept pin live.2)
