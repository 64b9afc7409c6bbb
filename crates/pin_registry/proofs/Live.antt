-- The live pins as entries of a map, when one is added, removed or looked for.
use Rattle.std.proofs.Common.{◌≡◌, ℕ, ◌+◌, ◌<◌, cond, not, nat_lt, eqb, List, [], ◌∷◌, ◌++◌, map, length, Some, inl, inr, zero-add, add-zero, refl, sym, ap, ◌∙◌, subst, arith}
use Rattle.std.specs.declared.cmp.Ordering.TheVariants.{Less}
use Rattle.std.specs.List.{All, AllByRecursion, filter, count_by, list_any}
use Rattle.std.specs.List.Sorted.{IsStrictlySortedBy}
use Rattle.std.specs.Ordering.{nat_cmp}
use Rattle.std.specs.Map.{keys_of, values_of, lookup, remove_entry}
use Rattle.std.specs.Cmp.{nat_eq_equiv}
use Rattle.std.specs.Option.{option_map, unwrap_or}
use Rattle.std.proofs.lemmas.Map.Entries.{sum_by-remove_entry}
use Rattle.std.proofs.lemmas.Map.Views.{All-map-remove_entry}
use Rattle.std.specs.BTreeMap.{insert_entry, is_at}
use Rattle.std.proofs.lemmas.Map.Keys.{sorted_head, sorted_tail}
use Rattle.std.proofs.lemmas.List.Elements.{All-head, All-tail, All-push, All-weaker}
use Rattle.std.proofs.lemmas.Bool.{le-ltb, lt-ltb, eq-eqb, ne_eqb, cases_eq, cases_order}
use Rattle.std.proofs.lemmas.Cmp.{ranked}
use Rattle.std.proofs.lemmas.List.Sums.{sum_by-cons, sum_by-append}
use Rattle.std.proofs.lemmas.List.{map-append, length_push}
use Rattle.pin_registry.specs.Registry.{LivePin, live_pin}

abbrev pub pins_of : List (ℕ × ℕ) → List LivePin
pins_of entries = map (λ entry. live_pin entry.0 entry.1) entries

-- a number above all others is the last entry
pub insert_last : (es : List (ℕ × ℕ)) (number version : ℕ) → All (λ n. n < number) (keys_of es) → insert_entry nat_cmp es number version ≡ es ++ (number, version) ∷ []
insert_last [] number version h = refl
insert_last (e ∷ es) number version h =
    let below = All-head (λ n. n < number) e.0 (keys_of es) h in
    rw (le-ltb number e.0 (omega arith), ne_eqb number e.0 (omega arith)) (ap (λ fs. e ∷ fs) (insert_last es number version (All-tail (λ n. n < number) e.0 (keys_of es) h)))

-- no pin of a higher number has the number
kept_all : (number : ℕ) (es : List (ℕ × ℕ)) → AllByRecursion (λ n. nat_cmp number n ≡ Less) (keys_of es) → pins_of es ≡ filter (λ pin. not (eqb pin.number number)) (pins_of es)
kept_all number [] h = refl
kept_all number (e ∷ es) h =
    let higher : number < e.0 = ranked number e.0 Less (sym h.0) in
    rw (ne_eqb e.0 number (omega arith)) (ap (λ pins. live_pin e.0 e.1 ∷ pins) (kept_all number es h.1))

-- without the entry of the number
pub pins_of_removed : (number : ℕ) (es : List (ℕ × ℕ)) → IsStrictlySortedBy nat_cmp (keys_of es) → pins_of (remove_entry (is_at (nat_cmp number)) es) ≡ filter (λ pin. not (eqb pin.number number)) (pins_of es)
pins_of_removed number [] h = refl
pins_of_removed number (e ∷ es) h =
    let rest = pins_of_removed number es (sorted_tail nat_cmp e.0 (keys_of es) h) in
    let above = sorted_head nat_cmp e.0 (keys_of es) h in
    elim (cases_order number e.0) [
      | inl same ↦ rw (le-ltb number e.0 (omega arith), eq-eqb number e.0 same, eq-eqb e.0 number (sym same)) (kept_all number es (subst (λ n. AllByRecursion (λ m. nat_cmp n m ≡ Less) (keys_of es)) (sym same) above))
      | inr (inl less) ↦ rw (lt-ltb number e.0 less, ne_eqb e.0 number (omega arith)) (ap (λ pins. live_pin e.0 e.1 ∷ pins) rest)
      | inr (inr more) ↦ rw (le-ltb number e.0 (omega arith), ne_eqb number e.0 (omega arith), ne_eqb e.0 number (omega arith)) (ap (λ pins. live_pin e.0 e.1 ∷ pins) rest)
    ]

-- a version has a positive count just where a live pin holds it
pub counted_is_held : (version : ℕ) (es : List (ℕ × ℕ)) → nat_lt 0 (count_by (λ held. eqb held version) (values_of es)) ≡ list_any (λ pin. eqb pin.version version) (pins_of es)
counted_is_held version [] = refl
counted_is_held version (e ∷ es) =
    let one : ℕ → ℕ = λ held. cond (eqb held version) 1 0 in
    rw (sum_by-cons one e.1 (values_of es)) (elim (cases_eq e.1 version) [
      | inl same ↦ rw (eq-eqb e.1 version same) (lt-ltb 0 _ (omega arith))
      | inr apart ↦ rw (ne_eqb e.1 version apart, zero-add) (counted_is_held version es)
    ])

-- what one more entry, with a number above all others, leaves
pub record Adds (es fs : List (ℕ × ℕ)) (number version : ℕ) : Type 0 where
  pub pins : pins_of fs ≡ pins_of es ++ live_pin number version ∷ []
  pub numbered : All (λ n. n < number + 1) (keys_of fs)
  pub length : length fs ≡ length es + 1
  pub count : (q : ℕ) → count_by (λ held. eqb held q) (values_of fs) ≡ count_by (λ held. eqb held q) (values_of es) + cond (eqb version q) 1 0

pub adds : (es fs : List (ℕ × ℕ)) (number version : ℕ) → All (λ n. n < number) (keys_of es) → fs ≡ insert_entry nat_cmp es number version → Adds es fs number version
adds es fs number version numbered e =
    let last = e ∙ insert_last es number version numbered in
    record {
      pins = rw (last, map-append) refl;
      numbered = rw (last, map-append) (All-push (λ n. n < number + 1) (keys_of es) number (All-weaker (λ n. n < number) (λ n. n < number + 1) (λ n h. omega arith) (keys_of es) numbered) (omega arith));
      length = rw last (length_push es (number, version));
      count = λ q. let one : ℕ → ℕ = λ held. cond (eqb held q) 1 0 in rw (last, map-append, sum_by-append one (values_of es) (version ∷ [])) (ap (λ n. count_by (λ held. eqb held q) (values_of es) + n) (sum_by-cons one version [] ∙ add-zero (one version)));
    }

-- what is left without the entry of a number, which had this version
pub record Removes (es fs : List (ℕ × ℕ)) (number version : ℕ) : Type 0 where
  pub pins : pins_of fs ≡ filter (λ pin. not (eqb pin.number number)) (pins_of es)
  pub numbered : (made : ℕ) → All (λ n. n < made) (keys_of es) → All (λ n. n < made) (keys_of fs)
  pub count : (q : ℕ) → count_by (λ held. eqb held q) (values_of fs) + cond (eqb q version) 1 0 ≡ count_by (λ held. eqb held q) (values_of es)

pub removes : (es fs : List (ℕ × ℕ)) (number version : ℕ) → IsStrictlySortedBy nat_cmp (keys_of es) → fs ≡ remove_entry (is_at (nat_cmp number)) es → lookup (is_at (nat_cmp number)) es ≡ Some version → Removes es fs number version
removes es fs number version ordered e found =
    record {
      pins = rw e (pins_of_removed number es ordered);
      numbered = λ made h. rw e (All-map-remove_entry (is_at (nat_cmp number)) (λ (entry : ℕ × ℕ). entry.0) (λ n. n < made) es h);
      count = λ q.
          let one : ℕ → ℕ = λ held. cond (eqb held q) 1 0 in
          let total = sum_by-remove_entry one (is_at (nat_cmp number)) es in
          let had : unwrap_or (option_map one (lookup (is_at (nat_cmp number)) es)) 0 ≡ cond (eqb version q) 1 0 = rw found refl in
          rw e (omega (arith, total, had, ap (λ b. cond {A = ℕ} b 1 0) (nat_eq_equiv.symm version q)));
    }
