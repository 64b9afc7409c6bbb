-- A live pin stays live until its caller releases it.
use Rattle.std.proofs.Common.{◌≡◌, ℕ, ◌==◌, not, true, List, [], ◌∷◌, ◌++◌, ⊎_elim, ap, sym, subst, arith}
use Rattle.std.specs.List.{All}
use Rattle.std.proofs.lemmas.Bool.{cases_eq}
use Rattle.std.proofs.lemmas.Bool.Decides.{nat_tests}
use Rattle.std.proofs.lemmas.List.Elements.{All-head, All-tail, Contains-append_left}
use Rattle.netlist_schema.specs.Design.{Design}
use Rattle.db_spec.specs.declared.event.Answer.{Answer}
use Rattle.db_spec.specs.declared.event.Answer.TheVariants.{Pinned, Released, Collected, Committed}
use Rattle.db_spec.specs.declared.event.Call.{Call}
use Rattle.db_spec.specs.declared.event.Call.TheVariants.{Release, Collect, Commit}
use Rattle.db_spec.specs.declared.event.Event.{Event}
use Rattle.db_spec.specs.Answers.{IsCallers}
use Rattle.db_spec.specs.History.{IsLegalFrom, Legal, state_from, state_after}
use Rattle.db_spec.specs.Laws.{IsReleaseOf}
use Rattle.db_spec.specs.State.{State, LivePin, opening, live_pin, IsLive, changed, after}
use Rattle.db_spec.proofs.Histories.{legal-left, legal-right, state_from-append}
use Rattle.db_spec.proofs.Lists.{to_filter}
use Rattle.db_spec.proofs.Sound.{IsFine, fine_after, kept_up_after, one_pin}

another : (m n : ℕ) → (m ≡ n → ⊥) → not (m == n) ≡ true
another m n e = grind (arith, nat_tests)

module _ (number caller v : ℕ) where
  -- the release of another pin, since its caller holds it
  after_release : (s : State) (who n : ℕ) → IsFine s → IsCallers s who (Release n) → IsLive s number caller v → ¬ ((who ≡ caller) × (n ≡ number)) → IsLive (changed s who (Release n) Released) number caller v
  after_release s who n fine mine live not_it = ⊎_elim
      (λ (same : number ≡ n).
      let theirs : IsLive s number who mine.0 = subst (λ (m : ℕ). IsLive s m who mine.0) (sym same) mine.1 in
      let one = one_pin s number who mine.0 caller v fine theirs live in
      absurd (not_it (ap (λ (pin : LivePin). pin.caller) one, sym same)))
      (λ (apart : number ≡ n → ⊥). to_filter (λ (pin : LivePin). not (pin.number == n)) s.pins (live_pin number caller v) (another number n apart) live)
      (cases_eq number n)

  after_one : (s : State) (who : ℕ) (call : Call) (answer : Answer) → IsFine s → IsCallers s who call → IsLive s number caller v → ¬ ((who ≡ caller) × (call ≡ Release number)) → IsLive (changed s who call answer) number caller v
  after_one s who call (Pinned n w) fine mine live not_it = Contains-append_left s.pins (live_pin s.made who w ∷ []) (live_pin number caller v) live
  after_one s who (Release n) Released fine mine live not_it = after_release s who n fine mine live (λ is. not_it (is.0, ap Release is.1))
  after_one s who Collect (Collected count) fine mine live not_it = live
  after_one s who (Commit n ops) (Committed w replies) fine mine live not_it = live
  after_one s who call answer fine mine live not_it = live

  stays_from : (s : State) (xs : List Event) → IsFine s → IsLegalFrom s xs → IsLive s number caller v → All (λ event. ¬ IsReleaseOf caller number event) xs → IsLive (state_from s xs) number caller v
  stays_from s [] fine legal live none = live
  stays_from s (x ∷ xs) fine legal live none =
      let admits = legal.0 in
      stays_from (after s x) xs (fine_after s x fine admits) legal.1
      (after_one s x.caller x.call x.answer fine admits.callers live (All-head (λ (event : Event). ¬ IsReleaseOf caller number event) x xs none))
      (All-tail (λ (event : Event). ¬ IsReleaseOf caller number event) x xs none)

pub pin_stays_live : (d : Design) (xs ys : List Event) (caller number v : ℕ) → Legal d (xs ++ ys) → IsLive (state_after d xs) number caller v
    → All (λ event. ¬ IsReleaseOf caller number event) ys → IsLive (state_after d (xs ++ ys)) number caller v
pin_stays_live d xs ys caller number v legal live none =
    let fine = (kept_up_after d xs (legal-left (opening d) xs ys legal)).fine in
    subst (λ (s : State). IsLive s number caller v) (sym (state_from-append (opening d) xs ys))
    (stays_from number caller v (state_after d xs) ys fine (legal-right (opening d) xs ys legal) live none)
