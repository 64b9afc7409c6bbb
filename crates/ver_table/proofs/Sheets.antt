-- Sheets: their pairs one after the other, and what stands after changes.
use Rattle.std.proofs.Common.{◌≡◌, ℕ, ◌/◌, ◌<◌, ◌≤◌, List, [], ◌∷◌, ◌++◌, inl, inr, refl, sym, ap, ◌∙◌, subst, append_assoc, div-mul-le_self, arith}
use Rattle.std.specs.Ordering.{nat_cmp}
use Rattle.std.specs.FinMap.{find, put}
use Rattle.std.proofs.lemmas.Bool.{cases_order}
use Rattle.std.proofs.lemmas.Nat.{le-div}
use Rattle.ver_table.specs.Entries.{with_all, IsInOrder}
use Rattle.ver_table.specs.Pages.{Each, spread, sheet_at, revise, revise_all, IsSheet, AreSheets}
use Rattle.ver_table.proofs.Places.{cmp_below, cmp_above, cmp_same, rest_in_order}
use Rattle.ver_table.proofs.Maps.{order_put}
use Rattle.ver_table.proofs.Fronts.{Each-weaker, Each-append, put_behind, find_behind, put_before, find_none, find_before, Each-put, put_some, higher_than_first, order_append}

-- a lower quotient is a lower number's
pub quotients_rise : (size a b : ℕ) → 1 ≤ size → a ≤ b → a / size ≤ b / size
quotients_rise size a b some h = le-div (a / size) b size (omega arith) (omega (arith, div-mul-le_self a size))

lower_slot : (size a b : ℕ) → 1 ≤ size → a / size < b / size → a < b
lower_slot size a b some h = elim (cases_order a b) [
  | inl e ↦ absurd (omega (arith, quotients_rise size b a some (omega arith)))
  | inr (inl less) ↦ less
  | inr (inr more) ↦ absurd (omega (arith, quotients_rise size b a some (omega arith)))
]

module _ {X : Type 0} where
  spread_append : (xs ys : List (ℕ × List (ℕ × X))) → spread (xs ++ ys) ≡ spread xs ++ spread ys
  spread_append [] ys = refl
  spread_append (x ∷ xs) ys = ap (λ ps. x.1 ++ ps) (spread_append xs ys) ∙ sym (append_assoc x.1 (spread xs) (spread ys))

  module _ (size : ℕ) (some : 1 ≤ size) where
    -- what holds of the sheets' numbers holds of the quotients of their slots
    pub Each-spread : (P : ℕ → Type 0) → (sheets : List (ℕ × List (ℕ × X))) → Each (IsSheet size) sheets → Each (λ s. P s.0) sheets → Each (λ p. P (p.0 / size)) (spread sheets)
    Each-spread P [] are h = tt
    Each-spread P (s ∷ sheets) are h =
        Each-append (λ p. P (p.0 / size)) s.1 (spread sheets)
        (Each-weaker (λ p. p.0 / size ≡ s.0) (λ p. P (p.0 / size)) (λ p e. subst P (sym e) h.0) s.1 are.0.own)
        (Each-spread P sheets are.1 h.1)

    rest_of_sheets : (s : ℕ × List (ℕ × X)) (sheets : List (ℕ × List (ℕ × X))) → AreSheets size (s ∷ sheets) → AreSheets size sheets
    rest_of_sheets s sheets h = record { rising = rest_in_order s sheets h.rising; each = h.each.1 }

    -- the pairs of later sheets are higher than a slot of the first one
    later : (slot : ℕ) (s : ℕ × List (ℕ × X)) (sheets : List (ℕ × List (ℕ × X))) → AreSheets size (s ∷ sheets) → slot / size ≤ s.0 → Each (λ p. slot < p.0) (spread sheets)
    later slot s sheets h k =
        Each-weaker (λ p. s.0 < p.0 / size) (λ p. slot < p.0) (λ p l. lower_slot size slot p.0 some (omega arith)) (spread sheets)
        (Each-spread (λ n. s.0 < n) sheets h.each.1 (higher_than_first s sheets h.rising))

    -- and so are those of the first one, for a slot before it
    all_later : (slot : ℕ) (s : ℕ × List (ℕ × X)) (sheets : List (ℕ × List (ℕ × X))) → AreSheets size (s ∷ sheets) → slot / size < s.0 → Each (λ p. slot < p.0) (spread (s ∷ sheets))
    all_later slot s sheets h k =
        Each-append (λ p. slot < p.0) s.1 (spread sheets)
        (Each-weaker (λ p. p.0 / size ≡ s.0) (λ p. slot < p.0) (λ p e. lower_slot size slot p.0 some (omega arith)) s.1 h.each.0.own)
        (later slot s sheets h (omega arith))

    earlier : (slot : ℕ) (s : ℕ × List (ℕ × X)) → IsSheet size s → s.0 < slot / size → Each (λ p. p.0 < slot) s.1
    earlier slot s h k = Each-weaker (λ p. p.0 / size ≡ s.0) (λ p. p.0 < slot) (λ p e. lower_slot size p.0 slot some (omega arith)) s.1 h.own

    -- what is found among all pairs is found on the slot's sheet
    pub find_spread : (slot : ℕ) (sheets : List (ℕ × List (ℕ × X))) → AreSheets size sheets → find nat_cmp slot (spread sheets) ≡ find nat_cmp slot (sheet_at sheets (slot / size))
    find_spread slot [] h = refl
    find_spread slot (s ∷ sheets) h = elim (cases_order (slot / size) s.0) [
      | inl e ↦ rw (cmp_same (slot / size) s.0 e) (find_before slot s.1 (spread sheets) (later slot s sheets h (omega arith)))
      | inr (inl less) ↦
          rw (cmp_below (slot / size) s.0 less, find_none (slot / size) sheets (Each-weaker (λ t. s.0 < t.0) (λ t. slot / size < t.0) (λ t l. omega arith) sheets (higher_than_first s sheets h.rising)))
          (find_none slot (spread (s ∷ sheets)) (all_later slot s sheets h less))
      | inr (inr more) ↦
          rw (cmp_above (slot / size) s.0 more)
          (find_behind slot s.1 (spread sheets) (earlier slot s h.each.0 more) ∙ find_spread slot sheets (rest_of_sheets s sheets h))
    ]

    -- a change behind lower sheets
    revise_behind : (front sheets : List (ℕ × List (ℕ × X))) (c : ℕ × X) → Each (λ s. s.0 < c.0 / size) front → revise size (front ++ sheets) c ≡ front ++ revise size sheets c
    revise_behind front sheets c h = rw (find_behind (c.0 / size) front sheets h) (put_behind (c.0 / size) _ front sheets h)

    -- a change of the sheets is a change of all pairs
    spread_revise : (c : ℕ × X) (sheets : List (ℕ × List (ℕ × X))) → AreSheets size sheets → spread (revise size sheets c) ≡ put nat_cmp c.0 c.1 (spread sheets)
    spread_revise c [] h = refl
    spread_revise c (s ∷ sheets) h = elim (cases_order (c.0 / size) s.0) [
      | inl e ↦ rw (cmp_same (c.0 / size) s.0 e) (sym (put_before c.0 c.1 s.1 (spread sheets) (later c.0 s sheets h (omega arith))))
      | inr (inl less) ↦
          rw (cmp_below (c.0 / size) s.0 less, find_none (c.0 / size) sheets (Each-weaker (λ t. s.0 < t.0) (λ t. c.0 / size < t.0) (λ t l. omega arith) sheets (higher_than_first s sheets h.rising)))
          (sym (put_before c.0 c.1 [] (spread (s ∷ sheets)) (all_later c.0 s sheets h less)))
      | inr (inr more) ↦
          ap spread (revise_behind (s ∷ []) sheets c (more, tt))
          ∙ (ap (λ ps. s.1 ++ ps) (spread_revise c sheets (rest_of_sheets s sheets h)) ∙ sym (put_behind c.0 c.1 s.1 (spread sheets) (earlier c.0 s h.each.0 more)))
    ]

    -- the pairs of a sheet, or none, are in order, and lie on it
    record Fits (number : ℕ) (ps : List (ℕ × X)) : Type 0 where
      ordered : IsInOrder ps
      own : Each (λ p. p.0 / size ≡ number) ps

    sheet_fits : (number : ℕ) (sheets : List (ℕ × List (ℕ × X))) → Each (IsSheet size) sheets → Fits number (sheet_at sheets number)
    sheet_fits number [] h = record { ordered = refl; own = tt }
    sheet_fits number (s ∷ sheets) h = elim (cases_order number s.0) [
      | inl e ↦ rw (cmp_same number s.0 e) (record { ordered = h.0.ordered; own = subst (λ n. Each (λ p. p.0 / size ≡ n) s.1) (sym e) h.0.own })
      | inr (inl less) ↦ rw (cmp_below number s.0 less) (sheet_fits number sheets h.1)
      | inr (inr more) ↦ rw (cmp_above number s.0 more) (sheet_fits number sheets h.1)
    ]

    AreSheets-revise : (c : ℕ × X) (sheets : List (ℕ × List (ℕ × X))) → AreSheets size sheets → AreSheets size (revise size sheets c)
    AreSheets-revise c sheets h =
        let number = c.0 / size in
        let old = sheet_at sheets number in
        let fits = sheet_fits number sheets h.each in
        record {
          rising = order_put sheets h.rising number (put nat_cmp c.0 c.1 old);
          each = Each-put (IsSheet size) number (put nat_cmp c.0 c.1 old) sheets
              (record {
                some = put_some c.0 c.1 old;
                ordered = order_put old fits.ordered c.0 c.1;
                own = Each-put (λ p. p.0 / size ≡ number) c.0 c.1 old refl fits.own;
              }) h.each;
        }

    pub AreSheets-revise_all : (cs : List (ℕ × X)) (sheets : List (ℕ × List (ℕ × X))) → AreSheets size sheets → AreSheets size (revise_all size sheets cs)
    AreSheets-revise_all [] sheets h = h
    AreSheets-revise_all (c ∷ cs) sheets h = AreSheets-revise_all cs (revise size sheets c) (AreSheets-revise c sheets h)

    pub spread_revise_all : (cs : List (ℕ × X)) (sheets : List (ℕ × List (ℕ × X))) → AreSheets size sheets → spread (revise_all size sheets cs) ≡ with_all (spread sheets) cs
    spread_revise_all [] sheets h = refl
    spread_revise_all (c ∷ cs) sheets h = spread_revise_all cs (revise size sheets c) (AreSheets-revise c sheets h) ∙ ap (λ ps. with_all ps cs) (spread_revise c sheets h)

    -- all pairs of sheets are in order
    pub spread_in_order : (sheets : List (ℕ × List (ℕ × X))) → AreSheets size sheets → IsInOrder (spread sheets)
    spread_in_order [] h = refl
    spread_in_order (s ∷ sheets) h =
        order_append s.1 (spread sheets) h.each.0.ordered (spread_in_order sheets (rest_of_sheets s sheets h))
        (Each-weaker (λ p. p.0 / size ≡ s.0) (λ p. Each (λ q. p.0 < q.0) (spread sheets)) (λ p e. later p.0 s sheets h (omega arith)) s.1 h.each.0.own)

    pub revise_all_append : (sheets : List (ℕ × List (ℕ × X))) (cs more : List (ℕ × X)) → revise_all size sheets (cs ++ more) ≡ revise_all size (revise_all size sheets cs) more
    revise_all_append sheets [] more = refl
    revise_all_append sheets (c ∷ cs) more = revise_all_append (revise size sheets c) cs more

    pub sheet_in_order : (number : ℕ) (sheets : List (ℕ × List (ℕ × X))) → AreSheets size sheets → IsInOrder (sheet_at sheets number)
    sheet_in_order number sheets h = (sheet_fits number sheets h.each).ordered
