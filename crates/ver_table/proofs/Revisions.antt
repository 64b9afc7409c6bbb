-- Runs of changes on one page, and the loop over them: sheets made of the runs so far, put among the old ones, and then the rest
-- of the changes, are the whole.
use Rattle.std.proofs.Common.{◌≡◌, ◌≢◌, ℕ, zero, suc, ◌/◌, ◌^◌, ◌<◌, ◌≤◌, cond, List, [], ◌∷◌, ◌++◌, length, take, drop, unwrap_or, Some, inl, inr, refl, sym, ap, ◌∙◌, subst, take-append-drop, length-take, arith}
use Rattle.std.specs.Ordering.{nat_cmp, eq_by_cmp}
use Rattle.std.specs.FinMap.{find, put}
use Rattle.std.proofs.lemmas.Bool.{cases_order}
use Rattle.ver_table.specs.Entries.{with_all, slot_at, IsInOrder}
use Rattle.ver_table.specs.Pages.{Each, sheet_at, revise, revise_all, AreRevised, IsFirstRun, IsRun}
use Rattle.ver_table.proofs.Places.{cmp_below, cmp_above, cmp_same, rest_in_order}
use Rattle.ver_table.proofs.Fronts.{Each-weaker, Each-append, Each-drop, higher_than_first, order_append, order_drop, order_take, take_each, with_all_append}
use Rattle.ver_table.proofs.Sheets.{quotients_rise, revise_all_append}

module _ {V : Type 0} where
  find_there : (k q : ℕ) (v : V) (ps : List (ℕ × V)) → q ≡ k → find nat_cmp q (put nat_cmp k v ps) ≡ Some v
  find_there k q v [] h = rw (cmp_same q k h) refl
  find_there k q v (p ∷ ps) h = elim (cases_order k p.0) [
    | inl e ↦ rw (cmp_same k p.0 e, cmp_same q p.0 (h ∙ e)) refl
    | inr (inl less) ↦ rw (cmp_below k p.0 less, cmp_same q k h) refl
    | inr (inr more) ↦ rw (cmp_above k p.0 more, cmp_above q p.0 (omega (arith, h, more))) (find_there k q v ps h)
  ]

  find_put : (k : ℕ) (v : V) (ps : List (ℕ × V)) → find nat_cmp k (put nat_cmp k v ps) ≡ Some v
  find_put k v ps = find_there k k v ps refl

  find_past_put : (k n : ℕ) (v : V) (ps : List (ℕ × V)) → k < n → find nat_cmp n (put nat_cmp k v ps) ≡ find nat_cmp n ps
  find_past_put k n v [] h = rw (cmp_above n k h) refl
  find_past_put k n v (p ∷ ps) h = elim (cases_order k p.0) [
    | inl e ↦ rw (cmp_same k p.0 e, cmp_above n p.0 (omega arith)) refl
    | inr (inl less) ↦ rw (cmp_below k p.0 less, cmp_above n k h) refl
    | inr (inr more) ↦ rw (cmp_above k p.0 more) (ap (cond (eq_by_cmp nat_cmp n p.0) (Some p.1)) (find_past_put k n v ps h))
  ]

  put_there : (k q : ℕ) (v w : V) (ps : List (ℕ × V)) → q ≡ k → put nat_cmp q w (put nat_cmp k v ps) ≡ put nat_cmp k w ps
  put_there k q v w [] h = rw (cmp_same q k h) refl
  put_there k q v w (p ∷ ps) h = elim (cases_order k p.0) [
    | inl e ↦ rw (cmp_same k p.0 e, cmp_same q p.0 (h ∙ e)) refl
    | inr (inl less) ↦ rw (cmp_below k p.0 less, cmp_same q k h) refl
    | inr (inr more) ↦ rw (cmp_above k p.0 more, cmp_above q p.0 (omega (arith, h, more))) (ap (λ qs. p ∷ qs) (put_there k q v w ps h))
  ]

  put_put : (k : ℕ) (v w : V) (ps : List (ℕ × V)) → put nat_cmp k w (put nat_cmp k v ps) ≡ put nat_cmp k w ps
  put_put k v w ps = put_there k k v w ps refl

  -- changes of lower keys leave what is found
  find_past : (n : ℕ) (ps cs : List (ℕ × V)) → Each (λ c. c.0 < n) cs → find nat_cmp n (with_all ps cs) ≡ find nat_cmp n ps
  find_past n ps [] h = refl
  find_past n ps (c ∷ cs) h = find_past n (put nat_cmp c.0 c.1 ps) cs h.1 ∙ find_past_put c.0 n c.1 ps h.0

  Each-behind : (P : ℕ × V → Type 0) → (xs ys : List (ℕ × V)) → Each P (xs ++ ys) → Each P ys
  Each-behind P [] ys h = h
  Each-behind P (x ∷ xs) ys h = Each-behind P xs ys h.1

-- the loop over runs: the sheets made so far, and the changes that are left
pub record Pending {X : Type 0} (size : ℕ) (sheets : List (ℕ × List (ℕ × X))) (changes left : List (ℕ × X)) (made : List (ℕ × List (ℕ × X))) : Type 0 where
  pub same : revise_all size (with_all sheets made) left ≡ revise_all size sheets changes
  pub rising : IsInOrder made
  pub typed : Each (λ sheet. sheet.0 < 2 ^ 32) made
  pub ahead : Each (λ sheet. Each (λ change. sheet.0 < change.0 / size) left) made
  pub rising_left : IsInOrder left

module _ {X : Type 0} (size : ℕ) (some : 1 ≤ size) where
  -- a run makes one new sheet
  one_run : (number : ℕ) (c : ℕ × X) (run : List (ℕ × X)) (sheets : List (ℕ × List (ℕ × X))) → c.0 / size ≡ number → Each (λ d. d.0 / size ≡ number) run
      → revise_all size sheets (c ∷ run) ≡ put nat_cmp number (with_all (sheet_at sheets number) (c ∷ run)) sheets
  one_run number c [] sheets e h = ap (λ n. put nat_cmp n (put nat_cmp c.0 c.1 (sheet_at sheets n)) sheets) e
  one_run number c (d ∷ run) sheets e h =
      let first = put nat_cmp c.0 c.1 (sheet_at sheets number) in
      let once : revise size sheets c ≡ put nat_cmp number first sheets = ap (λ n. put nat_cmp n (put nat_cmp c.0 c.1 (sheet_at sheets n)) sheets) e in
      ap (λ ss. revise_all size ss (d ∷ run)) once
      ∙ one_run number d run (put nat_cmp number first sheets) h.0 h.1
      ∙ put_put number first (with_all (sheet_at (put nat_cmp number first sheets) number) (d ∷ run)) sheets
      ∙ ap (λ o. put nat_cmp number (with_all (unwrap_or o []) (d ∷ run)) sheets) (find_put number first sheets)

  pub begins : (sheets : List (ℕ × List (ℕ × X))) (changes : List (ℕ × X)) → IsInOrder changes → Pending size sheets changes changes []
  begins sheets changes rising = record { same = refl; rising = refl; typed = tt; ahead = tt; rising_left = rising }

  pub goes_on : (sheets : List (ℕ × List (ℕ × X))) (changes left : List (ℕ × X)) (made : List (ℕ × List (ℕ × X))) (number : ℕ) (run rest : List (ℕ × X))
      → Pending size sheets changes left made → IsFirstRun size left number run rest → Pending size sheets changes rest (made ++ (number, with_all (sheet_at sheets number) run) ∷ [])
  goes_on sheets changes left made number [] rest h r = absurd (omega (arith, r.some))
  goes_on sheets changes left made number (c ∷ run) rest h r =
      let sheet : ℕ × List (ℕ × X) = (number, with_all (sheet_at sheets number) (c ∷ run)) in
      let now = with_all sheets made in
      let lower : Each (λ s. s.0 < number) made =
      Each-weaker (λ s. Each (λ d. s.0 < d.0 / size) left) (λ s. s.0 < number) (λ s e. (let all = subst (Each (λ (d : ℕ × X). s.0 < d.0 / size)) (sym r.whole) e in omega (arith, all.0, r.own.0))) made h.ahead in
      let run_made : revise_all size now (c ∷ run) ≡ put nat_cmp number sheet.1 now =
      one_run number c run now r.own.0 r.own.1 ∙ ap (λ o. put nat_cmp number (with_all (unwrap_or o []) (c ∷ run)) now) (find_past number sheets made lower) in
      record {
        same = ap (λ ss. revise_all size ss rest) (with_all_append sheets made (sheet ∷ []) ∙ sym run_made) ∙ sym (revise_all_append size some now (c ∷ run) rest) ∙ ap (revise_all size now) r.whole ∙ h.same;
        rising = order_append made (sheet ∷ []) h.rising refl (Each-weaker (λ s. s.0 < number) (λ s. Each (λ (q : ℕ × List (ℕ × X)). s.0 < q.0) (sheet ∷ [])) (λ s l. (l, tt)) made lower);
        typed = Each-append (λ s. s.0 < 2 ^ 32) made (sheet ∷ []) h.typed (r.typed, tt);
        ahead = Each-append (λ s. Each (λ d. s.0 < d.0 / size) rest) made (sheet ∷ [])
            (Each-weaker (λ s. Each (λ d. s.0 < d.0 / size) left) (λ s. Each (λ d. s.0 < d.0 / size) rest) (λ s e. Each-behind (λ d. s.0 < d.0 / size) (c ∷ run) rest (subst (Each (λ (d : ℕ × X). s.0 < d.0 / size)) (sym r.whole) e)) made h.ahead)
            (r.later, tt);
        rising_left = r.rising_rest;
      }

  pub ends : (sheets : List (ℕ × List (ℕ × X))) (changes left : List (ℕ × X)) (made : List (ℕ × List (ℕ × X))) → Pending size sheets changes left made → left ≡ [] → AreRevised size sheets changes made
  ends sheets changes left made h none = record { same = ap (revise_all size (with_all sheets made)) (sym none) ∙ h.same; rising = h.rising; typed = h.typed }

  -- the changes behind a run lie on later sheets
  behind_run : (number count : ℕ) (cs : List (ℕ × X)) → Each (λ c. number ≤ c.0 / size) cs → IsInOrder cs → (count < length cs → slot_at cs count / size ≢ number) → Each (λ c. number < c.0 / size) (drop count cs)
  behind_run number count [] low rising next = Each-drop (λ c. number < c.0 / size) count [] tt
  behind_run number zero (c ∷ cs) low rising next =
      let first : number < c.0 / size = omega (arith, low.0, next (omega arith)) in
      (first, Each-weaker (λ d. c.0 < d.0) (λ d. number < d.0 / size) (λ d l. omega (arith, quotients_rise size c.0 d.0 some (omega arith))) cs (higher_than_first c cs rising))
  behind_run number (suc count) (c ∷ cs) low rising next = behind_run number count cs low.1 (rest_in_order c cs rising) (λ l. next (omega arith))

  -- a run is not empty
  run_some : (number count : ℕ) (cs : List (ℕ × X)) → 0 < length cs → slot_at cs 0 / size ≡ number → IsRun size number cs count → 0 < count
  run_some number zero cs present first run = absurd (run.next present first)
  run_some number (suc count) cs present first run = omega arith

  -- the number of changes in the first run gives the run
  pub first_run_of : (changes : List (ℕ × X)) (number count : ℕ) → IsInOrder changes → 0 < length changes → slot_at changes 0 / size ≡ number → number < 2 ^ 32 → IsRun size number changes count
      → IsFirstRun size changes number (take count changes) (drop count changes)
  first_run_of [] number count rising present first typed run = absurd (omega arith)
  first_run_of (c ∷ cs) number count rising present first typed run =
      let low : Each (λ d. number ≤ d.0 / size) (c ∷ cs) =
      (omega (arith, first), Each-weaker (λ d. c.0 < d.0) (λ d. number ≤ d.0 / size) (λ d l. omega (arith, first, quotients_rise size c.0 d.0 some (omega arith))) cs (higher_than_first c cs rising)) in
      record {
        whole = take-append-drop count (c ∷ cs);
        some = omega (arith, length-take count (c ∷ cs), run_some number count (c ∷ cs) present first run, run.in_range);
        own = take_each (λ n. n / size ≡ number) count (c ∷ cs) run.own;
        later = behind_run number count (c ∷ cs) low rising run.next;
        rising_run = order_take count (c ∷ cs) rising;
        rising_rest = order_drop count (c ∷ cs) rising;
        typed = typed;
      }
