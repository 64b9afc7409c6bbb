-- Numbers that rise, sets of cells, and places that a test picks.
use Rattle.std.proofs.Common.{◌≡◌, ◌≢◌, ◌+◌, ◌<◌, ◌≤◌, ℕ, zero, suc, arith, Bool, true, false, cond, List, [], ◌∷◌, ◌++◌, get_or, length, Some, Ok, Err, refl, sym, ap, ◌∙◌, inl, inr}
use Rattle.std.specs.Prelude.{◌||◌, filter, nat_eq}
use Rattle.std.specs.BTreeSet.{BTreeSet, Updates, contains}
use Rattle.std.specs.BTreeMap.{is_at}
use Rattle.std.specs.List.{AllByRecursion, list_any, range_with_len}
use Rattle.std.specs.List.Sorted.{IsBinarySearchResult}
use Rattle.std.specs.Ordering.{nat_cmp}
use Rattle.std.specs.Cmp.{IsTotalOrder, eq_by_cmp_equiv, nat_cmp_total}
use Rattle.std.specs.FinMap.{nat_cmp-IsAntisymmetric}
use Rattle.std.proofs.lemmas.Bool.{cases_lt, eqb-true, false_from_ne_true}
use Rattle.std.proofs.lemmas.Cmp.{on_total, then_total}
use Rattle.std.proofs.lemmas.List.Elements.{All-from_recursion}
use Rattle.std.proofs.lemmas.List.Folds.{list_any-append}
use Rattle.std.proofs.lemmas.List.FromFn.{length-range_with_len}
use Rattle.std.proofs.lemmas.List.Sorted.{searched}
use Rattle.std.proofs.lemmas.Option.{slice_get-get_or}
use Rattle.netlist_schema.specs.Order.{cell_cmp}
use Rattle.netlist_schema.specs.Types.{CellId}
use Rattle.netlist_schema.proofs.Lists.{all_weaker, same_test}
use Rattle.netlist_schema.proofs.Objects.{both_are_Equal}
use Rattle.netlist_schema.proofs.WithCell.{same_id}
use Rattle.netlist_order_spec.proofs.WholeOrder.{IsNew}
use Rattle.edif_spec.specs.Arranged.{place_in}
use Rattle.edit_rules_spec.specs.Paths.{same_cell}
use Rattle.edit_rules_spec.proofs.Levels.{is_same_cell, same_cell-refl}
use Rattle.edit_rules_spec.proofs.Lists.{filter_both, length_filter}
use Rattle.used_spec.specs.Uses.{id_at}
use Rattle.used_spec.proofs.Numbered.{range_next}
use Rattle.used_spec.proofs.Renumbered.{place_at}
use Rattle.used_keep.specs.Places.{IsRising, slots_by}

-- ---- the place of a number

rising_new : (xs : List ℕ) → IsRising xs → IsNew xs
rising_new [] h = tt
rising_new (x ∷ xs) h = (none xs h.0, rising_new xs h.1)
  where
    none : (ys : List ℕ) → AllByRecursion (λ y. x < y) ys → list_any (nat_eq x) ys ≡ false
    none [] all = refl
    none (y ∷ ys) all =
        let less : x < y = all.0 in
        let apart : nat_eq x y ≡ false = false_from_ne_true (nat_eq x y) (λ same. let is : x ≡ y = eqb-true x y same in absurd (omega arith)) in
        ap (λ b. b || list_any (nat_eq x) ys) apart ∙ none ys all.1

rising_pairs : (xs : List ℕ) → IsRising xs → (i j : ℕ) → i ≤ j → j < length xs → get_or xs i 0 ≤ get_or xs j 0
rising_pairs [] h i j le within = absurd (omega arith)
rising_pairs (x ∷ xs) h zero zero le within = omega arith
rising_pairs (x ∷ xs) h zero (suc j) le within = let less : x < get_or xs j 0 = All-from_recursion (λ y. x < y) xs h.0 j 0 (omega arith) in omega (arith, less)
rising_pairs (x ∷ xs) h (suc i) zero le within = absurd (omega arith)
rising_pairs (x ∷ xs) h (suc i) (suc j) le within = rising_pairs xs h.1 i j (omega arith) (omega arith)

-- what is not there has the place behind the last
place_past : (s : ℕ) (xs : List ℕ) → ((k : ℕ) → k < length xs → get_or xs k 0 ≢ s) → place_in s xs ≡ length xs
place_past s [] none = refl
place_past s (x ∷ xs) none =
    let apart : nat_eq s x ≡ false = false_from_ne_true (nat_eq s x) (λ same. none 0 (omega arith) (sym (eqb-true s x same))) in
    ap (λ b. cond b 0 (suc (place_in s xs))) apart ∙ ap suc (place_past s xs (λ k within. none (suc k) (omega arith)))

pub place_found : (xs : List ℕ) (s i : ℕ) → IsRising xs → IsBinarySearchResult (λ y. nat_cmp y s) xs (Ok i) → i ≡ place_in s xs
place_found xs s i rising is =
    let found = searched xs s (Ok i) is (rising_pairs xs rising) in
    sym (place_at xs i s (rising_new xs rising) (slice_get-get_or xs i 0 found.0 ∙ ap Some found.1))

pub place_missed : (xs : List ℕ) (s i : ℕ) → IsRising xs → IsBinarySearchResult (λ y. nat_cmp y s) xs (Err i) → length xs ≡ place_in s xs
place_missed xs s i rising is =
    let missed = searched xs s (Err i) is (rising_pairs xs rising) in
    sym (place_past s xs (λ k within same. elim (cases_lt k i) [
      | inl less ↦ let below = missed.1 k less in omega (arith, below, same)
      | inr le ↦ let above = missed.2 k le within in omega (arith, above, same)
    ]))

-- ---- sets of cells

cell_cmp_total : IsTotalOrder cell_cmp
cell_cmp_total = then_total (on_total (λ (c : CellId). c.lib.0) nat_cmp_total) (on_total (λ (c : CellId). c.slot) nat_cmp_total)

at_itself : (c : CellId) → is_at (cell_cmp c) c ≡ true
at_itself c = (eq_by_cmp_equiv cell_cmp_total).refl c

at_cell : (a b : CellId) → is_at (cell_cmp a) b ≡ same_cell a b
at_cell a b = same_test (is_at (cell_cmp a) b) (same_cell a b)
    (λ hit.
    let parts = both_are_Equal (nat_cmp a.lib.0 b.lib.0) (nat_cmp a.slot b.slot) hit in
    let same : a ≡ b = same_id a b (nat_cmp-IsAntisymmetric a.lib.0 b.lib.0 parts.0) (nat_cmp-IsAntisymmetric a.slot b.slot parts.1) in
    ap (same_cell a) (sym same) ∙ same_cell-refl a)
    (λ same. ap (λ c. is_at (cell_cmp a) c) (sym (is_same_cell a b same)) ∙ at_itself a)

pub set_next : (old new : BTreeSet CellId) (cells : List CellId) (cell : CellId) → ((id : CellId) → contains cell_cmp old id ≡ list_any (λ c. same_cell c id) cells) → Updates cell_cmp old new cell true
    → (id : CellId) → contains cell_cmp new id ≡ list_any (λ c. same_cell c id) (cells ++ cell ∷ [])
set_next old new cells cell so_far updates id =
    updates.0 id
    ∙ (λ i. cond (at_cell cell id i) true (so_far id i))
    ∙ either (same_cell cell id) (list_any (λ c. same_cell c id) cells)
    ∙ sym (list_any-append (λ c. same_cell c id) cells (cell ∷ []))
  where
    either : (a b : Bool) → cond a true b ≡ (b || (a || false))
    either true true = refl
    either true false = refl
    either false true = refl
    either false false = refl

-- ---- places that a test picks

pub slots_next : (test : CellId → Bool) (lib count : ℕ) → slots_by test lib (count + 1) ≡ slots_by test lib count ++ cond (test (id_at lib count)) (count ∷ []) []
slots_next test lib count =
    let here : 0 + count ≡ count = omega arith in
    ap (filter (λ slot. test (id_at lib slot))) (range_next 0 count ∙ ap (λ k. range_with_len 0 count ++ k ∷ []) here)
    ∙ filter_both (λ slot. test (id_at lib slot)) (range_with_len 0 count) (count ∷ [])

picked_rise : (test : ℕ → Bool) (a n : ℕ) → AllByRecursion (λ y. a ≤ y) (filter test (range_with_len a n)) × IsRising (filter test (range_with_len a n))
picked_rise test a zero = (tt, tt)
picked_rise test a (suc n) = go (test a) (picked_rise test (a + 1) n)
  where
    go : (b : Bool) → AllByRecursion (λ y. a + 1 ≤ y) (filter test (range_with_len (a + 1) n)) × IsRising (filter test (range_with_len (a + 1) n))
        → AllByRecursion (λ y. a ≤ y) (cond b (a ∷ filter test (range_with_len (a + 1) n)) (filter test (range_with_len (a + 1) n)))
        × IsRising (cond b (a ∷ filter test (range_with_len (a + 1) n)) (filter test (range_with_len (a + 1) n)))
    go true rest = (
      (omega arith, all_weaker (λ y. a + 1 ≤ y) (λ y. a ≤ y) (filter test (range_with_len (a + 1) n)) (λ y le. omega (arith, le)) rest.0),
      (all_weaker (λ y. a + 1 ≤ y) (λ y. a < y) (filter test (range_with_len (a + 1) n)) (λ y le. omega (arith, le)) rest.0, rest.1),
    )
    go false rest = (all_weaker (λ y. a + 1 ≤ y) (λ y. a ≤ y) (filter test (range_with_len (a + 1) n)) (λ y le. omega (arith, le)) rest.0, rest.1)

pub slots_rise : (test : CellId → Bool) (lib count : ℕ) → IsRising (slots_by test lib count)
slots_rise test lib count = (picked_rise (λ slot. test (id_at lib slot)) 0 count).1

pub slots_few : (test : CellId → Bool) (lib count : ℕ) → length (slots_by test lib count) ≤ count
slots_few test lib count =
    let few = length_filter (λ slot. test (id_at lib slot)) (range_with_len 0 count) in
    let range = length-range_with_len 0 count in
    omega (arith, few, range)
