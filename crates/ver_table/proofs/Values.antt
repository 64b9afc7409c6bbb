-- Pairs whose values are changed, the keys stay: what is found, put and in order.
use Rattle.std.proofs.Common.{◌≡◌, ℕ, suc, ◌+◌, ◌<◌, ◌≤◌, ◌&&◌, List, [], ◌∷◌, map, length, unwrap_or, Some, None, inl, inr, refl, sym, ap, ◌∙◌, subst, ◌/◌, arith}
use Rattle.std.specs.Option.{option_map}
use Rattle.std.specs.Ordering.{nat_cmp, is_lt}
use Rattle.std.specs.Cmp.{nat_cmp_total}
use Rattle.std.specs.FinMap.{FinMap, empty, entries, from_sorted, get, len, find, put, insert, is_sorted, entries-insert, entries-from_sorted, get-entries, get-from_sorted, len-entries}
use Rattle.std.specs.FinMap.Entries.{below_all}
use Rattle.std.proofs.lemmas.Bool.{cases_order}
use Rattle.std.proofs.lemmas.List.{length-map}
use Rattle.std.specs.Global.{Vec}
use Rattle.ver_table.specs.declared.entries.Entry.{Entry}
use Rattle.ver_table.specs.Entries.{pairs_of, with_all, IsInOrder}
use Rattle.ver_table.specs.Pages.{sheet_of, sheets_of, sheet_at, pages_of, spread, map_of, revise_all, AreSheets, Each}
use Rattle.ver_table.specs.Rows.{set_all}
use Rattle.ver_table.proofs.Places.{to_T, cmp_below, cmp_above, cmp_same, rest_in_order}
use Rattle.ver_table.proofs.Fronts.{Each-put, Each-weaker, higher_than_first}
use Rattle.ver_table.proofs.Maps.{map_of_nothing, map_of_with_all}
use Rattle.ver_table.proofs.Sheets.{find_spread, spread_in_order, spread_revise_all}

module _ {X Y : Type 0} (f : X → Y) where
  map-put : (k : ℕ) (x : X) (ps : List (ℕ × X)) → map (λ (p : ℕ × X). (p.0, f p.1)) (put nat_cmp k x ps) ≡ put nat_cmp k (f x) (map (λ (p : ℕ × X). (p.0, f p.1)) ps)
  map-put k x [] = refl
  map-put k x (p ∷ ps) = elim (cases_order k p.0) [
    | inl e ↦ rw (cmp_same k p.0 e) refl
    | inr (inl less) ↦ rw (cmp_below k p.0 less) refl
    | inr (inr more) ↦ rw (cmp_above k p.0 more) (ap (λ qs. (p.0, f p.1) ∷ qs) (map-put k x ps))
  ]

  pub map-with_all : (ps cs : List (ℕ × X)) → map (λ (p : ℕ × X). (p.0, f p.1)) (with_all ps cs) ≡ with_all (map (λ (p : ℕ × X). (p.0, f p.1)) ps) (map (λ (p : ℕ × X). (p.0, f p.1)) cs)
  map-with_all ps [] = refl
  map-with_all ps (c ∷ cs) = map-with_all (put nat_cmp c.0 c.1 ps) cs ∙ ap (λ qs. with_all qs (map (λ (p : ℕ × X). (p.0, f p.1)) cs)) (map-put c.0 c.1 ps)

  pub find-valued : (k : ℕ) (ps : List (ℕ × X)) → find nat_cmp k (map (λ (p : ℕ × X). (p.0, f p.1)) ps) ≡ option_map f (find nat_cmp k ps)
  find-valued k [] = refl
  find-valued k (p ∷ ps) = elim (cases_order k p.0) [
    | inl e ↦ rw (cmp_same k p.0 e) refl
    | inr (inl less) ↦ rw (cmp_below k p.0 less) (find-valued k ps)
    | inr (inr more) ↦ rw (cmp_above k p.0 more) (find-valued k ps)
  ]

  below_valued : (k : ℕ) (ps : List (ℕ × X)) → below_all nat_cmp k (map (λ (p : ℕ × X). (p.0, f p.1)) ps) ≡ below_all nat_cmp k ps
  below_valued k [] = refl
  below_valued k (p ∷ ps) = ap (λ b. is_lt (nat_cmp k p.0) && b) (below_valued k ps)

  sorted_valued : (ps : List (ℕ × X)) → is_sorted nat_cmp (map (λ (p : ℕ × X). (p.0, f p.1)) ps) ≡ is_sorted nat_cmp ps
  sorted_valued [] = refl
  sorted_valued (p ∷ ps) = rw (below_valued p.0 ps, sorted_valued ps) refl

  pub order_of_valued : (ps : List (ℕ × X)) → IsInOrder (map (λ (p : ℕ × X). (p.0, f p.1)) ps) → IsInOrder ps
  order_of_valued ps h = sym (sorted_valued ps) ∙ h

module _ {X : Type 0} where
  pub entries_set_all : (m : FinMap nat_cmp X) (cs : List (ℕ × X)) → entries (set_all m cs) ≡ with_all (entries m) cs
  entries_set_all m [] = refl
  entries_set_all m (c ∷ cs) = entries_set_all (insert m c.0 c.1) cs ∙ ap (λ ps. with_all ps cs) (entries-insert nat_cmp_total m c.0 c.1)

  -- keys in order, from one number on and below another, are at most as many as lie between
  few_between : (most low : ℕ) (ps : List (ℕ × X)) → low ≤ most → IsInOrder ps → Each (λ p. low ≤ p.0) ps → Each (λ p. p.0 < most) ps → length ps + low ≤ most
  few_between most low [] within ordered from below = omega (arith, within)
  few_between most low (p ∷ ps) within ordered from below =
      let rest = few_between most (suc p.0) ps (omega (arith, below.0)) (rest_in_order p ps ordered) (Each-weaker (λ q. p.0 < q.0) (λ q. suc p.0 ≤ q.0) (λ q l. omega arith) ps (higher_than_first p ps ordered)) below.1 in
      omega (arith, rest, from.0)

  any_from : (ps : List (ℕ × X)) → Each (λ p. 0 ≤ p.0) ps
  any_from [] = tt
  any_from (p ∷ ps) = (omega arith, any_from ps)

  pub few_below : (most : ℕ) (ps : List (ℕ × X)) → IsInOrder ps → Each (λ p. p.0 < most) ps → length ps ≤ most
  few_below most ps ordered below = omega (arith, few_between most 0 ps (omega arith) ordered (any_from ps) below)

-- the sheets of pages are those of their pairs
pub sheets_are : {X : Type 0} (pages : List (Entry (Vec (Entry X)))) → sheets_of pages ≡ map (λ (p : ℕ × Vec (Entry X)). (p.0, pairs_of p.1.items)) (pairs_of pages)
sheets_are [] = refl
sheets_are (page ∷ pages) = ap (λ ss. sheet_of page ∷ ss) (sheets_are pages)

module _ {X : Type 0} where
  -- pages are in order as their sheets are
  pub order_of_pages : (pages : List (Entry (Vec (Entry X)))) → IsInOrder (sheets_of pages) → IsInOrder (pairs_of pages)
  order_of_pages pages h = order_of_valued (λ (entries : Vec (Entry X)). pairs_of entries.items) (pairs_of pages) (subst IsInOrder (sheets_are pages) h)

  -- the sheet with a number has the pairs of the page with it
  pub sheet_found : (pages : List (Entry (Vec (Entry X)))) (number : ℕ) → sheet_at (sheets_of pages) number ≡ unwrap_or (option_map (λ (entries : Vec (Entry X)). pairs_of entries.items) (find nat_cmp number (pairs_of pages))) []
  sheet_found pages number = ap (λ o. unwrap_or o []) (ap (find nat_cmp number) (sheets_are pages) ∙ find-valued (λ (entries : Vec (Entry X)). pairs_of entries.items) number (pairs_of pages))

  pub page_found : (pages : FinMap nat_cmp (Vec (Entry X))) (number : ℕ) → sheet_at (pages_of pages) number ≡ unwrap_or (option_map (λ (entries : Vec (Entry X)). pairs_of entries.items) (get pages number)) []
  page_found pages number = ap (λ o. unwrap_or o []) (find-valued (λ (entries : Vec (Entry X)). pairs_of entries.items) number (entries pages) ∙ ap (option_map (λ (entries : Vec (Entry X)). pairs_of entries.items)) (sym (get-entries pages number)))

  -- pages set in a map stand in their sheets
  pub pages_set : (pages : FinMap nat_cmp (Vec (Entry X))) (changed : List (Entry (Vec (Entry X)))) → pages_of (set_all pages (pairs_of changed)) ≡ with_all (pages_of pages) (sheets_of changed)
  pages_set pages changed =
      let items : Vec (Entry X) → List (ℕ × X) = λ entries. pairs_of entries.items in
      ap (map (λ (p : ℕ × Vec (Entry X)). (p.0, items p.1))) (entries_set_all pages (pairs_of changed))
      ∙ map-with_all items (entries pages) (pairs_of changed)
      ∙ ap (with_all (pages_of pages)) (sym (sheets_are changed))

  -- and so do pages that were changed in a list
  pub sheets_set : (pages changed made : List (Entry (Vec (Entry X)))) → pairs_of made ≡ with_all (pairs_of pages) (pairs_of changed) → sheets_of made ≡ with_all (sheets_of pages) (sheets_of changed)
  sheets_set pages changed made e =
      let items : Vec (Entry X) → List (ℕ × X) = λ entries. pairs_of entries.items in
      sheets_are made
      ∙ ap (map (λ (p : ℕ × Vec (Entry X)). (p.0, items p.1))) e
      ∙ map-with_all items (pairs_of pages) (pairs_of changed)
      ∙ ap (λ ps. with_all ps (map (λ (p : ℕ × Vec (Entry X)). (p.0, items p.1)) (pairs_of changed))) (sym (sheets_are pages))
      ∙ ap (with_all (sheets_of pages)) (sym (sheets_are changed))

  pub page_in : (pages : List (Entry (Vec (Entry X)))) (number : ℕ) (found : Vec (Entry X)) → Some found ≡ find nat_cmp number (pairs_of pages) → pairs_of found.items ≡ sheet_at (sheets_of pages) number
  page_in pages number found e = ap (λ o. unwrap_or (option_map (λ (entries : Vec (Entry X)). pairs_of entries.items) o) []) e ∙ sym (sheet_found pages number)

  pub no_page_in : (pages : List (Entry (Vec (Entry X)))) (number : ℕ) → None ≡ find nat_cmp number (pairs_of pages) → [] ≡ sheet_at (sheets_of pages) number
  no_page_in pages number e = ap (λ o. unwrap_or (option_map (λ (entries : Vec (Entry X)). pairs_of entries.items) o) []) e ∙ sym (sheet_found pages number)

  pub page_of : (pages : FinMap nat_cmp (Vec (Entry X))) (number : ℕ) (found : Vec (Entry X)) → Some found ≡ get pages number → pairs_of found.items ≡ sheet_at (pages_of pages) number
  page_of pages number found e = ap (λ o. unwrap_or (option_map (λ (entries : Vec (Entry X)). pairs_of entries.items) o) []) e ∙ sym (page_found pages number)

  pub no_page_of : (pages : FinMap nat_cmp (Vec (Entry X))) (number : ℕ) → None ≡ get pages number → [] ≡ sheet_at (pages_of pages) number
  no_page_of pages number e = ap (λ o. unwrap_or (option_map (λ (entries : Vec (Entry X)). pairs_of entries.items) o) []) e ∙ sym (page_found pages number)

  -- the sheets of no pages
  pub no_pages : pages_of {T = X} empty ≡ []
  no_pages = ap (map (λ (p : ℕ × Vec (Entry X)). (p.0, pairs_of p.1.items))) (ap entries (sym map_of_nothing) ∙ entries-from_sorted nat_cmp [] tt)

  -- what is found on the sheet of a slot is what the map of all pairs has
  pub get_of : (size : ℕ) → 1 ≤ size → (sheets : List (ℕ × List (ℕ × X))) → AreSheets size sheets → (slot : ℕ) → find nat_cmp slot (sheet_at sheets (slot / size)) ≡ get (map_of sheets) slot
  get_of size some sheets h slot = sym (find_spread size some slot sheets h) ∙ sym (get-from_sorted nat_cmp (spread sheets) slot (to_T (spread_in_order size some sheets h)))

  -- the number of all pairs
  pub len_of : (size : ℕ) → 1 ≤ size → (sheets : List (ℕ × List (ℕ × X))) → AreSheets size sheets → len (map_of sheets) ≡ length (spread sheets)
  len_of size some sheets h = len-entries (map_of sheets) ∙ ap length (entries-from_sorted nat_cmp (spread sheets) (to_T (spread_in_order size some sheets h)))

  -- the map with changes made
  pub revised_map : (size : ℕ) → 1 ≤ size → (sheets : List (ℕ × List (ℕ × X))) → AreSheets size sheets → (changes : List (ℕ × X)) → map_of (revise_all size sheets changes) ≡ set_all (map_of sheets) changes
  revised_map size some sheets h changes =
      ap (λ ps. from_sorted {R = nat_cmp} ps) (spread_revise_all size some changes sheets h) ∙ map_of_with_all (spread sheets) changes (spread_in_order size some sheets h)

  -- how many pages a map has
  pub pages_number : (pages : FinMap nat_cmp (Vec (Entry X))) → len pages ≡ length (pages_of pages)
  pages_number pages = len-entries pages ∙ sym (length-map (entries pages) (λ (p : ℕ × Vec (Entry X)). (p.0, pairs_of p.1.items)))

  -- pages that were changed in a list, as they are lent
  pub groups_revised : (size : ℕ) (old shown changed lent made : List (Entry (Vec (Entry X)))) (changes : List (ℕ × X)) → shown ≡ old → lent ≡ changed
      → pairs_of made ≡ with_all (pairs_of shown) (pairs_of lent) → with_all (sheets_of shown) (sheets_of changed) ≡ revise_all size (sheets_of shown) changes → sheets_of made ≡ revise_all size (sheets_of old) changes
  groups_revised size old shown changed lent made changes is_old is_changed set same =
      sheets_set old changed made (set ∙ ap (λ gs. with_all (pairs_of gs) (pairs_of lent)) is_old ∙ ap (λ cs. with_all (pairs_of old) (pairs_of cs)) is_changed)
      ∙ subst (λ gs. with_all (sheets_of gs) (sheets_of changed) ≡ revise_all size (sheets_of gs) changes) is_old same

  -- and in a map
  pub pages_revised : (size : ℕ) (old new : FinMap nat_cmp (Vec (Entry X))) (changed lent : List (Entry (Vec (Entry X)))) (changes : List (ℕ × X)) → lent ≡ changed
      → new ≡ set_all old (pairs_of lent) → with_all (pages_of old) (sheets_of changed) ≡ revise_all size (pages_of old) changes → pages_of new ≡ revise_all size (pages_of old) changes
  pages_revised size old new changed lent changes is_changed set same =
      ap pages_of set ∙ ap (λ cs. pages_of (set_all old (pairs_of cs))) is_changed ∙ pages_set old changed ∙ same

-- what holds of pairs and of changes holds of the changed pairs
pub Each-with_all : {V : Type 0} (P : ℕ × V → Type 0) (ps cs : List (ℕ × V)) → Each P ps → Each P cs → Each P (with_all ps cs)
Each-with_all P ps [] h k = h
Each-with_all P ps (c ∷ cs) h k = Each-with_all P (put nat_cmp c.0 c.1 ps) cs (Each-put P c.0 c.1 ps k.0 h) k.1
