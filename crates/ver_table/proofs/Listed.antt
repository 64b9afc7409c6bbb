-- Tables that have the items of a list: the empty one, one with an item more or with another item, and their values.
use Rattle.std.proofs.Common.{◌≡◌, ℕ, zero, suc, ◌+◌, ◌<◌, cond, IsTrue, List, [], ◌∷◌, ◌++◌, map, length, set, slice_get, Some, None, inl, inr, refl, sym, ap, ◌∙◌, subst, append_assoc, append-nil, arith}
use Rattle.std.specs.Ordering.{nat_cmp, eq_by_cmp}
use Rattle.std.specs.Cmp.{nat_cmp_total}
use Rattle.std.specs.FinMap.{FinMap, empty, insert, values, find, from_sorted, is_sorted, get-empty, get-insert, get-from_sorted, entries-from_sorted, same_map, nat_cmp-IsAntisymmetric}
use Rattle.std.specs.FinMap.Entries.{below_all}
use Rattle.std.proofs.lemmas.Bool.{cases_order, and_from}
use Rattle.std.proofs.lemmas.List.{length_push}
use Rattle.ver_table.specs.Rows.{Lists, numbered, set_all}
use Rattle.ver_table.proofs.Places.{to_T, cmp_below, cmp_above, cmp_same}

-- one slot further on both sides
same_after : (a b : ℕ) → eq_by_cmp nat_cmp (suc a) (suc b) ≡ eq_by_cmp nat_cmp a b
same_after a b = elim (cases_order a b) [
  | inl e ↦ rw (cmp_same (suc a) (suc b) (ap suc e), cmp_same a b e) refl
  | inr (inl h) ↦ rw (cmp_below (suc a) (suc b) (omega arith), cmp_below a b h) refl
  | inr (inr h) ↦ rw (cmp_above (suc a) (suc b) (omega arith), cmp_above a b h) refl
]

module _ {X : Type 0} where
  pub Lists-empty : Lists {T = X} empty []
  Lists-empty = record { each = λ slot. get-empty nat_cmp slot }

  get_past_push : (items : List X) (x : X) (slot : ℕ) → cond (eq_by_cmp nat_cmp slot (length items)) (Some x) (slice_get items slot) ≡ slice_get (items ++ x ∷ []) slot
  get_past_push [] x zero = refl
  get_past_push [] x (suc slot) = rw (cmp_above (suc slot) 0 (omega arith)) refl
  get_past_push (y ∷ items) x zero = rw (cmp_below 0 (suc (length items)) (omega arith)) refl
  get_past_push (y ∷ items) x (suc slot) = rw same_after (get_past_push items x slot)

  -- an item at the first free slot
  pub Lists-push : (table : FinMap nat_cmp X) (items : List X) (x : X) → Lists table items → Lists (insert table (length items) x) (items ++ x ∷ [])
  Lists-push table items x h = record { each = λ slot. get-insert nat_cmp_total table (length items) x slot ∙ ap (cond (eq_by_cmp nat_cmp slot (length items)) (Some x)) (h.each slot) ∙ get_past_push items x slot }

  get_past_set : (items : List X) (at : ℕ) (x : X) (slot : ℕ) → at < length items → cond (eq_by_cmp nat_cmp slot at) (Some x) (slice_get items slot) ≡ slice_get (set items at x) slot
  get_past_set [] at x slot h = absurd (omega arith)
  get_past_set (y ∷ items) zero x zero h = refl
  get_past_set (y ∷ items) zero x (suc slot) h = rw (cmp_above (suc slot) 0 (omega arith)) refl
  get_past_set (y ∷ items) (suc at) x zero h = rw (cmp_below 0 (suc at) (omega arith)) refl
  get_past_set (y ∷ items) (suc at) x (suc slot) h = rw same_after (get_past_set items at x slot (omega arith))

  -- another item at a slot that is set
  pub Lists-set : (table : FinMap nat_cmp X) (items : List X) (at : ℕ) (x : X) → at < length items → Lists table items → Lists (insert table at x) (set items at x)
  Lists-set table items at x in_range h = record { each = λ slot. get-insert nat_cmp_total table at x slot ∙ ap (cond (eq_by_cmp nat_cmp slot at) (Some x)) (h.each slot) ∙ get_past_set items at x slot in_range }

  -- two tables with the same items are one
  pub Lists-same_table : (first second : FinMap nat_cmp X) (items : List X) → Lists first items → Lists second items → first ≡ second
  Lists-same_table first second items h k = same_map nat_cmp_total nat_cmp-IsAntisymmetric first second (λ slot. h.each slot ∙ sym (k.each slot))

  below_numbered : (from : ℕ) (items : List X) (low : ℕ) → low < from → IsTrue (below_all nat_cmp low (numbered from items))
  below_numbered from [] low h = refl
  below_numbered from (x ∷ items) low h = rw (cmp_below low from h) (below_numbered (suc from) items low (omega arith))

  pub numbered_sorted : (from : ℕ) (items : List X) → IsTrue (is_sorted nat_cmp (numbered from items))
  numbered_sorted from [] = refl
  numbered_sorted from (x ∷ items) = and_from _ _ (below_numbered (suc from) items from (omega arith)) (numbered_sorted (suc from) items)

  find_numbered_before : (from : ℕ) (items : List X) (slot : ℕ) → slot < from → find nat_cmp slot (numbered from items) ≡ None
  find_numbered_before from [] slot h = refl
  find_numbered_before from (x ∷ items) slot h = rw (cmp_below slot from h) (find_numbered_before (suc from) items slot (omega arith))

  find_numbered : (from : ℕ) (items : List X) (slot at : ℕ) → at ≡ from + slot → find nat_cmp at (numbered from items) ≡ slice_get items slot
  find_numbered from [] slot at e = refl
  find_numbered from (x ∷ items) zero at e = rw (cmp_same at from (omega arith)) refl
  find_numbered from (x ∷ items) (suc slot) at e = rw (cmp_above at from (omega arith)) (find_numbered (suc from) items slot at (omega arith))

  numbered_items : (from : ℕ) (items : List X) → map (λ pair. pair.1) (numbered from items) ≡ items
  numbered_items from [] = refl
  numbered_items from (x ∷ items) = ap (λ xs. x ∷ xs) (numbered_items (suc from) items)

  pub Lists-numbered : (items : List X) → Lists (from_sorted (numbered 0 items)) items
  Lists-numbered items = record { each = λ slot. get-from_sorted nat_cmp (numbered 0 items) slot (to_T (numbered_sorted 0 items)) ∙ find_numbered 0 items slot slot (omega arith) }

  -- the values of the table, in the order of their slots, are the items
  pub values-Lists : (table : FinMap nat_cmp X) (items : List X) → Lists table items → values table ≡ items
  values-Lists table items h =
      let same = Lists-same_table table (from_sorted (numbered 0 items)) items h (Lists-numbered items) in
      rw (same, entries-from_sorted nat_cmp (numbered 0 items) (to_T (numbered_sorted 0 items))) (numbered_items 0 items)

  -- one more item
  pub numbered-push : (from : ℕ) (items : List X) (x : X) → numbered from (items ++ x ∷ []) ≡ numbered from items ++ (from + length items, x) ∷ []
  numbered-push from [] x = let shift : from ≡ from + 0 = omega arith in ap (λ n. (n, x) ∷ []) shift
  numbered-push from (y ∷ items) x =
      let shift : suc from + length items ≡ from + suc (length items) = omega arith in
      ap (λ ps. (from, y) ∷ ps) (numbered-push (suc from) items x ∙ ap (λ n. numbered (suc from) items ++ (n, x) ∷ []) shift)

  -- more items behind those that a table lists
  pub Lists-set_all : (more : List X) (table : FinMap nat_cmp X) (items : List X) (from : ℕ) → from ≡ length items → Lists table items → Lists (set_all table (numbered from more)) (items ++ more)
  Lists-set_all [] table items from e h = subst (Lists table) (sym (append-nil items)) h
  Lists-set_all (x ∷ more) table items from e h =
      let next : suc from ≡ length (items ++ x ∷ []) = omega (arith, length_push items x) in
      let one : Lists (insert table from x) (items ++ x ∷ []) = subst (λ n. Lists (insert table n x) (items ++ x ∷ [])) (sym e) (Lists-push table items x h) in
      rw (← append_assoc items (x ∷ []) more) (Lists-set_all more (insert table from x) (items ++ x ∷ []) (suc from) next one)
