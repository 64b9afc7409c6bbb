-- The number of different quotients of the slots of sheets.
use Rattle.std.proofs.Common.{◌≡◌, ℕ, ◌+◌, ◌/◌, ◌<◌, ◌≤◌, ◌==◌, false, List, [], ◌∷◌, ◌++◌, map, length, refl, sym, ap, ◌∙◌, ne_eqb, eq-eqb, arith}
use Rattle.std.specs.List.{list_any}
use Rattle.std.specs.Ordering.{nat_cmp}
use Rattle.std.specs.FinMap.{from_sorted, entries-from_sorted}
use Rattle.std.proofs.lemmas.List.{map-append}
use Rattle.ver_table.specs.Pages.{Each, spread, AreSheets}
use Rattle.ver_table.specs.Rows.{different, page_count}
use Rattle.ver_table.proofs.Places.{to_T, rest_in_order}
use Rattle.ver_table.proofs.Fronts.{higher_than_first}
use Rattle.ver_table.proofs.Sheets.{Each-spread, spread_in_order}

module _ {X : Type 0} (size : ℕ) where
  abbrev quotients : List (ℕ × X) → List ℕ
  quotients ps = map (λ slot. slot / size) (map (λ p. p.0) ps)

  not_among : (number : ℕ) (ps : List (ℕ × X)) → Each (λ p. number < p.0 / size) ps → list_any (λ y. number == y) (quotients ps) ≡ false
  not_among number [] h = refl
  not_among number (p ∷ ps) h = rw (ne_eqb number (p.0 / size) (omega arith)) (not_among number ps h.1)

  -- numbers that are all the same, and are not among the others, count once
  one_more : (number : ℕ) (ps qs : List (ℕ × X)) → 0 < length ps → Each (λ p. p.0 / size ≡ number) ps → list_any (λ y. number == y) (quotients qs) ≡ false
      → different (quotients ps ++ quotients qs) ≡ different (quotients qs) + 1
  one_more number [] qs some own h = absurd (omega arith)
  one_more number (p ∷ []) qs some own h = rw (own.0, h) refl
  one_more number (p ∷ (q ∷ ps)) qs some own h = rw (eq-eqb (p.0 / size) (q.0 / size) (own.0 ∙ sym own.1.0)) (one_more number (q ∷ ps) qs (omega arith) own.1 h)

  sheets_counted : 1 ≤ size → (sheets : List (ℕ × List (ℕ × X))) → AreSheets size sheets → different (quotients (spread sheets)) ≡ length sheets
  sheets_counted some [] h = refl
  sheets_counted some (s ∷ sheets) h =
      let later = Each-spread size some (λ n. s.0 < n) sheets h.each.1 (higher_than_first s sheets h.rising) in
      let rest = sheets_counted some sheets (record { rising = rest_in_order s sheets h.rising; each = h.each.1 }) in
      let parts : quotients (s.1 ++ spread sheets) ≡ quotients s.1 ++ quotients (spread sheets) =
      ap (map (λ slot. slot / size)) (map-append (λ (p : ℕ × X). p.0) s.1 (spread sheets)) ∙ map-append (λ slot. slot / size) (map (λ (p : ℕ × X). p.0) s.1) (map (λ (p : ℕ × X). p.0) (spread sheets)) in
      let once = one_more s.0 s.1 (spread sheets) h.each.0.some h.each.0.own (not_among s.0 (spread sheets) later) in
      ap different parts ∙ once ∙ omega arith

  pub pages_counted : 1 ≤ size → (sheets : List (ℕ × List (ℕ × X))) → AreSheets size sheets → page_count size (from_sorted (spread sheets)) ≡ length sheets
  pages_counted some sheets h = ap (λ ps. different (quotients ps)) (entries-from_sorted nat_cmp (spread sheets) (to_T (spread_in_order size some sheets h))) ∙ sheets_counted some sheets h
