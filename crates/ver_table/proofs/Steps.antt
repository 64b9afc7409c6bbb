-- The steps of the loops over entries and pages, in their lists.
use Rattle.std.proofs.Common.{◌≡◌, ℕ, suc, ◌+◌, ◌-◌, ◌<◌, ◌≤◌, List, [], ◌∷◌, ◌++◌, length, zero, append-nil, get_or, take, drop, slice_get, Some, sym, ap, ◌∙◌, subst, inl, inr, append_assoc, add-one, take_all, drop-cons, length-drop, arith}
use Rattle.std.specs.Arc.{arc_value}
use Rattle.std.proofs.lemmas.List.{length-append, length-map, get_or-map, take-map, drop-map, map-append}
use Rattle.ver_table.specs.declared.entries.Entry.{Entry}
use Rattle.std.specs.Global.{Vec}
use Rattle.ver_table.specs.Pages.{sheets_of, spread}
use Rattle.ver_table.specs.Entries.{pair_of, pairs_of, with_all, slot_at, IsInOrder, GivesWay}
use Rattle.ver_table.proofs.Fronts.{with_one, order_drop}

pub way_in_range : {V : Type 0} (ps : List (ℕ × V)) (key from to : ℕ) → GivesWay ps key from to → to ≤ length ps
way_in_range ps key from to (inl h) = omega (arith, h.0.in_range, h.1)
way_in_range ps key from to (inr h) = omega (arith, h.0.in_range, h.1)

rest_whole : {A : Type 0} (xs : List A) (n : ℕ) → take (length xs - n) (drop n xs) ≡ drop n xs
rest_whole xs n = take_all (length xs - n) (drop n xs) (omega (arith, length-drop n xs))

module _ {X : Type 0} where
  -- one change of entries
  pub entry_step : (whole : List (ℕ × X)) (made shared changed left changes : List (Entry X)) (change again : Entry X) (index from to : ℕ)
      → pairs_of made ++ with_all (pairs_of left) (drop index (pairs_of changes)) ≡ whole → IsInOrder (pairs_of left) → IsInOrder (pairs_of changes)
      → index < length changes → change ≡ get_or changes index change → GivesWay (pairs_of left) change.slot from to
      → pairs_of shared ≡ pairs_of made ++ pairs_of (take from left) → pair_of again ≡ pair_of change → changed ≡ shared ++ again ∷ []
      → (pairs_of changed ++ with_all (pairs_of (take (length left - to) (drop to left))) (drop (index + 1) (pairs_of changes)) ≡ whole) × IsInOrder (pairs_of (take (length left - to) (drop to left)))
  entry_step whole made shared changed left changes change again index from to same ordered rising within is way e f g =
      let cs = pairs_of changes in
      let rest = drop (suc index) cs in
      let head : drop index cs ≡ pair_of change ∷ rest =
      drop-cons cs index (pair_of change) (omega (arith, length-map changes pair_of)) ∙ ap (λ p. p ∷ rest) (get_or-map pair_of changes index change (pair_of change) within ∙ ap pair_of (sym is)) in
      let one = with_one (pairs_of left) from to (pair_of change) rest way (subst IsInOrder head (order_drop index cs rising)) in
      let left_pairs : pairs_of (take (length left - to) (drop to left)) ≡ drop to (pairs_of left) = ap pairs_of (rest_whole left to) ∙ sym (drop-map pair_of to left) in
      let made_pairs : pairs_of changed ≡ pairs_of made ++ (take from (pairs_of left) ++ pair_of change ∷ []) =
      ap pairs_of g ∙ map-append pair_of shared (again ∷ []) ∙ ap (λ ps. ps ++ pair_of again ∷ []) (e ∙ ap (λ ps. pairs_of made ++ ps) (sym (take-map pair_of from left)))
      ∙ ap (λ p. (pairs_of made ++ take from (pairs_of left)) ++ p ∷ []) f ∙ append_assoc (pairs_of made) (take from (pairs_of left)) (pair_of change ∷ []) in
      let old : pairs_of made ++ ((take from (pairs_of left) ++ pair_of change ∷ []) ++ with_all (drop to (pairs_of left)) rest) ≡ whole =
      ap (λ ps. pairs_of made ++ ps) (sym (ap (with_all (pairs_of left)) head ∙ one)) ∙ same in
      (rw (made_pairs, left_pairs, add-one, append_assoc) old, rw left_pairs (order_drop to (pairs_of left) ordered))

  -- one page more of pages that are counted
  pub count_step : (pages : List (Entry (Vec (Entry X)))) (at : ℕ) (page : Entry (Vec (Entry X))) → at < length pages → page ≡ get_or pages at page
      → length (spread (sheets_of (take (at + 1) pages))) ≡ length (spread (sheets_of (take at pages))) + length (arc_value page.item).items
  count_step [] at page within is = absurd (omega arith)
  count_step (p ∷ pages) zero page within is =
      let first : length (spread (sheets_of (p ∷ []))) ≡ length (pairs_of (arc_value p.item).items) = ap length (append-nil (pairs_of (arc_value p.item).items)) in
      rw is (omega (arith, first, length-map (arc_value p.item).items pair_of))
  count_step (p ∷ pages) (suc at) page within is =
      let front = pairs_of (arc_value p.item).items in
      let rest = count_step pages at page (omega arith) is in
      let more = length-append front (spread (sheets_of (take (at + 1) pages))) in
      let less = length-append front (spread (sheets_of (take at pages))) in
      let next : suc at + 1 ≡ suc (at + 1) = omega arith in
      rw next (omega (arith, rest, more, less))

  pub count_part : (pages : List (Entry (Vec (Entry X)))) (at : ℕ) → length (spread (sheets_of (take at pages))) ≤ length (spread (sheets_of pages))
  count_part [] zero = omega arith
  count_part [] (suc at) = omega arith
  count_part (p ∷ pages) zero = omega arith
  count_part (p ∷ pages) (suc at) =
      let front = pairs_of (arc_value p.item).items in
      let rest = count_part pages at in
      let more = length-append front (spread (sheets_of (take at pages))) in
      let whole = length-append front (spread (sheets_of pages)) in
      omega (arith, rest, more, whole)

  -- the first change that is left
  pub first_left : (left : List (Entry X)) (first : Entry X) → Some first ≡ slice_get left 0 → (0 < length left) × (slot_at (pairs_of left) 0 ≡ first.slot)
  first_left [] first e = absurd (cc)
  first_left (x ∷ left) first e = let same : first ≡ x = cc in (omega arith, ap (λ (y : Entry X). y.slot) (sym same))
