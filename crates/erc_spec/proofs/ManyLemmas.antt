-- Nets with several drivers.
use Rattle.std.proofs.Common.{◌≡◌, ◌≢◌, ◌↔◌, ℕ, ◌<◌, List, [], ◌∷◌, length, Bool, true, false, ◌&&◌, cond, Some, None, refl, sym, ap, subst, ◌∙◌, inl, inr, arith, true≢false}
use Rattle.std.specs.Prelude.{nat_lt}
use Rattle.std.specs.List.{Contains, flat_map, sum_by}
use Rattle.std.proofs.lemmas.Bool.{and_from, and_parts, lt-ltb, ltb-true}
use Rattle.std.proofs.lemmas.List.Concat.{length-flat_map}
use Rattle.netlist_schema.specs.Design.{Design}
use Rattle.netlist_schema.specs.Types.{TopHead}
use Rattle.netlist_schema.specs.Valid.{IsValid}
use Rattle.flat_spec.specs.ConnectionTest.{same_net}
use Rattle.flat_spec.specs.Flattening.{flattening}
use Rattle.flat_spec.specs.Paths.{Bit, IsNet}
use Rattle.flat_spec.specs.Representatives.{representative}
use Rattle.flat_spec.specs.Types.{Item, NetAt}
use Rattle.flat_spec.specs.declared.item.Item.TheVariants.{Enter, Net, Pin}
use Rattle.flat_spec.proofs.ListLemmas.{Ascends, Ascends-pairs, Contains-member, Member, Member-append_cases, Member-append_left, Member-contains}
use Rattle.flat_spec.proofs.PinLemmas.{AllPairs-ascends}
use Rattle.flat_spec.proofs.TestLemmas.{same_net-refl}
use Rattle.erc_spec.specs.Drives.{direction_at, is_at, is_open_port, is_strong, is_strong_port}
use Rattle.erc_spec.specs.Findings.{capped, findings, findings_in, first_nets, is_driven, net_finding, pin_finding, strong_pins}
use Rattle.erc_spec.specs.Told.{AreStrongPins, IsStrongPin, PinBefore}
use Rattle.erc_spec.specs.declared.finding.Finding.TheVariants.{Undriven, Many, Open}
use Rattle.erc_spec.proofs.ItemLemmas.{first_net_from}
use Rattle.erc_spec.proofs.MemberLemmas.{Member-flat_map, Member-from_flat_map}
use Rattle.erc_spec.proofs.NoDriver.{no_strong}
use Rattle.erc_spec.proofs.OpenLemmas.{all_pins-ascend}
use Rattle.erc_spec.proofs.PinOrder.{Ascends-weaker, no_longer, part, part-ascends, part-member, pin_at, PinBefore-differ}
use Rattle.erc_spec.proofs.ToldLemmas.{is_first, lead_of_pin, pin_of_lead}

module _ (d : Design) (items : List Item) where
  many_net : (x y : NetAt) (strong : ℕ) → Member (net_finding d items x) (Many y strong)
      → (x ≡ y) × (strong ≡ capped (strong_pins d items x)) × (nat_lt 1 (strong_pins d items x) ≡ true)
  many_net x y strong = by (is_driven d items x) (nat_lt 1 (strong_pins d items x)) refl
    where
      by : (b c : Bool) → nat_lt 1 (strong_pins d items x) ≡ c
          → Member (cond b (cond c (Many x (capped (strong_pins d items x)) ∷ []) []) (Undriven x ∷ [])) (Many y strong)
          → (x ≡ y) × (strong ≡ capped (strong_pins d items x)) × (nat_lt 1 (strong_pins d items x) ≡ true)
      by true true is m = elim m [ inl same ↦ (cc same, cc same, is) | inr none ↦ absurd none ]
      by true false is m = absurd m
      by false c is m = elim m [ inl same ↦ absurd (cc) | inr none ↦ absurd none ]

  no_many_pin : (item : Item) (y : NetAt) (strong : ℕ) → Member (pin_finding d item) (Many y strong) → ⊥
  no_many_pin (Enter path cell properties) y strong m = m
  no_many_pin (Net path net first) y strong m = m
  no_many_pin (Pin path port bit (Some first)) y strong m = m
  no_many_pin (Pin path port bit None) y strong m = by (is_open_port path (direction_at d path port)) m
    where
      by : (b : Bool) → Member (cond b (Open path port bit ∷ []) []) (Many y strong) → ⊥
      by true m = elim m [ inl same ↦ cc | inr none ↦ none ]
      by false m = m

  -- what is told to have several drivers has as many strong pins
  pub many_are_counted : (y : NetAt) (strong : ℕ) → Member (findings_in d items) (Many y strong)
      → (1 < strong_pins d items y) × (strong ≡ capped (strong_pins d items y))
  many_are_counted y strong m =
      elim (Member-append_cases (flat_map (net_finding d items) (first_nets items)) (flat_map (pin_finding d) items) (Many y strong) m) [
        | inl net ↦
            let found = Member-from_flat_map (net_finding d items) (first_nets items) (Many y strong) net in
            let is = many_net found.0 y strong found.2 in
            (subst (λ v. 1 < strong_pins d items v) is.0 (ltb-true 1 (strong_pins d items found.0) is.2), is.1 ∙ ap (λ v. capped (strong_pins d items v)) is.0)
        | inr pin ↦ let found = Member-from_flat_map (pin_finding d) items (Many y strong) pin in absurd (no_many_pin found.0 y strong found.2)
      ]

  pub many_from : (y : NetAt) → Member (first_nets items) y → 1 < strong_pins d items y → Member (findings_in d items) (Many y (capped (strong_pins d items y)))
  many_from y first many =
      Member-append_left (flat_map (net_finding d items) (first_nets items)) (flat_map (pin_finding d) items) (Many y (capped (strong_pins d items y)))
      (Member-flat_map (net_finding d items) (first_nets items) y (Many y (capped (strong_pins d items y))) first
      (by (is_driven d items y) refl (nat_lt 1 (strong_pins d items y)) (lt-ltb 1 (strong_pins d items y) many)))
    where
      by : (b : Bool) → is_driven d items y ≡ b → (c : Bool) → c ≡ true
          → Member (cond b (cond c (Many y (capped (strong_pins d items y)) ∷ []) []) (Undriven y ∷ [])) (Many y (capped (strong_pins d items y)))
      by true is true two = inl refl
      by true is false two = absurd (true≢false (sym two))
      by false is c two = let none = no_strong d items y is in absurd (omega (arith, none, many))

-- the strong pins among the items, as a list
module _ (d : Design) (y : NetAt) where
  abbrev pub is_strong_at : Item → Bool
  is_strong_at item = is_strong d item && is_at y item

  pub one_each : (item : Item) → length (part {A = Item} {B = List ℕ × Bit} PinBefore pin_at is_strong_at item) ≡ cond (is_strong_at item) 1 0
  one_each (Enter path cell properties) = refl
  one_each (Net path net first) = refl
  one_each (Pin path port bit first) = by (is_strong_at (Pin path port bit first))
    where
      by : (b : Bool) → length {A = List ℕ × Bit} (cond b ((path, record { port = port; bit = bit }) ∷ []) []) ≡ cond b 1 0
      by true = refl
      by false = refl

  pub strong_list : List Item → List (List ℕ × Bit)
  strong_list items = flat_map (part PinBefore pin_at is_strong_at) items

  pub strong_list-length : (items : List Item) → length (strong_list items) ≡ strong_pins d items y
  unfolding strong_list
  strong_list-length items = length-flat_map (part PinBefore pin_at is_strong_at) items ∙ (λ i. sum_by (λ item. one_each item i) items)

module _ (d : Design) (top : TopHead) (valid : IsValid d) (is : d.top ≡ Some top) (x : NetAt) (there : IsNet d top.cell x) where
  abbrev pub all_strong : List (List ℕ × Bit)
  all_strong = strong_list d (representative d top.cell x) (flattening d)

  strong-differ : Ascends (λ p q. p ≢ q) all_strong
  unfolding strong_list
  strong-differ =
      Ascends-weaker PinBefore (λ p q. p ≢ q) all_strong PinBefore-differ
      (part-ascends PinBefore pin_at (is_strong_at d (representative d top.cell x)) (flattening d) (all_pins-ascend d top valid is))

  strong_from : (path : List ℕ) (b : Bit) → IsStrongPin d top.cell x (path, b) → Member all_strong (path, b)
  unfolding strong_list
  strong_from path b h =
      let first = representative d top.cell x in
      let item = Pin path b.port b.bit (Some first) in
      let test : is_strong_at d first item ≡ true = and_from _ _ h.1 (same_net-refl first) in
      Member-flat_map (part PinBefore pin_at (is_strong_at d first)) (flattening d) item (path, b) (pin_of_lead d top valid is x there path b h.0)
      (subst (λ v. Member {A = List ℕ × Bit} (cond v ((path, b) ∷ []) []) (path, b)) (sym test) (inl refl))

  strong_of : (item : Item) (p : List ℕ × Bit) → Member (flattening d) item → is_strong_at d (representative d top.cell x) item ≡ true → Member (pin_at item) p → IsStrongPin d top.cell x p
  strong_of (Enter path cell properties) p m test at = absurd at
  strong_of (Net path net first) p m test at = absurd at
  strong_of (Pin path port bit None) p m test at = absurd (true≢false (sym (and_parts (is_strong_port path (direction_at d path port)) false test).1))
  strong_of (Pin path port bit (Some z)) p m test at =
      let parts = and_parts (is_strong_port path (direction_at d path port)) (same_net z (representative d top.cell x)) test in
      elim at [
        | inl same ↦ subst (IsStrongPin d top.cell x) same (lead_of_pin d top valid is x there path port bit z m parts.1, parts.0)
        | inr none ↦ absurd none
      ]

  strong_back : (p : List ℕ × Bit) → Member all_strong p → IsStrongPin d top.cell x p
  unfolding strong_list
  strong_back p m =
      let found = part-member PinBefore pin_at (is_strong_at d (representative d top.cell x)) (flattening d) p m in
      strong_of found.0 p found.1 found.2 found.3

  pub all_strong_are : AreStrongPins d top.cell x all_strong
  all_strong_are = record {
    each = λ p. (λ c. strong_back p (Contains-member all_strong p c), λ h. Member-contains all_strong p (strong_from p.0 p.1 h));
    differ = Ascends-pairs (λ p q. p ≢ q) all_strong strong-differ;
  }

  -- so any list of them, each once, is as long as their count
  counted : (pins : List (List ℕ × Bit)) → AreStrongPins d top.cell x pins → strong_pins d (flattening d) (representative d top.cell x) ≡ length pins
  counted pins are =
      let n = strong_list-length d (representative d top.cell x) (flattening d) in
      let low = no_longer all_strong pins strong-differ (λ p m. Contains-member pins p ((are.each p).1 (strong_back p m))) in
      let high = no_longer pins all_strong (AllPairs-ascends (λ p q. p ≢ q) pins are.differ) (λ p m. strong_from p.0 p.1 ((are.each p).0 (Member-contains pins p m))) in
      omega (arith, n, low, high)

  pub many_is_exact : (pins : List (List ℕ × Bit)) (strong : ℕ) → AreStrongPins d top.cell x pins
      → Contains (findings d) (Many (representative d top.cell x) strong) ↔ ((1 < length pins) × (strong ≡ capped (length pins)))
  many_is_exact pins strong are =
      let n = counted pins are in
      let first = representative d top.cell x in (
        λ told.
            let h = many_are_counted d (flattening d) first strong (Contains-member (findings d) (Many first strong) told) in
            (subst (λ v. 1 < v) n h.0, h.1 ∙ ap capped n),
        λ h.
            let m = many_from d (flattening d) first (first_net_from d top is valid.no_cycle first (is_first d top valid is x there)) (subst (λ v. 1 < v) (sym n) h.0) in
            Member-contains (findings d) (Many first strong) (subst (λ v. Member (findings d) (Many first v)) (ap capped n ∙ sym h.1) m),
      )
