-- What is told, and what is not.
use Rattle.std.proofs.Common.{◌≡◌, ◌↔◌, ℕ, List, [], ◌∷◌, ◌++◌, Bool, true, false, ◌&&◌, ◌||◌, cond, Option, Some, None, refl, sym, ap, subst, ◌∙◌, inl, inr, true≢false, append-nil}
use Rattle.std.specs.Prelude.{filter, nat_lt}
use Rattle.std.specs.List.{Contains, flat_map}
use Rattle.std.specs.Option.{option_map}
use Rattle.std.proofs.lemmas.Bool.{and_from, and_parts, false_from_ne_true}
use Rattle.std.proofs.lemmas.Grind.{flat_map-append}
use Rattle.netlist_schema.specs.Design.{Design}
use Rattle.netlist_schema.specs.Types.{CellId, TopHead}
use Rattle.netlist_schema.specs.Valid.{IsValid}
use Rattle.flat_spec.specs.ConnectionTest.{same_net}
use Rattle.flat_spec.specs.Flattening.{flattening}
use Rattle.flat_spec.specs.PathOrder.{NetBefore}
use Rattle.flat_spec.specs.Paths.{Bit, on, own, IsNet}
use Rattle.flat_spec.specs.Pins.{JoinsPin, net_at_pin}
use Rattle.flat_spec.specs.Representatives.{representative}
use Rattle.flat_spec.specs.Types.{Item, NetAt}
use Rattle.flat_spec.specs.declared.item.Item.TheVariants.{Enter, Net, Pin}
use Rattle.flat_spec.proofs.ListLemmas.{Ascends, Ascends-filter, Contains-member, Member, Member-append_cases, Member-append_left, Member-append_right, Member-contains, Member-from_filter}
use Rattle.flat_spec.proofs.PathLemmas.{Joins-net}
use Rattle.flat_spec.proofs.PinLemmas.{map-parts, net_at_pin-from, net_at_pin-joins}
use Rattle.flat_spec.proofs.RepresentativeLemmas.{Connected-net, representative-connected, representative-first, representative-same}
use Rattle.flat_spec.proofs.TestLemmas.{same_net-refl, same_net-true}
use Rattle.erc_spec.specs.Drives.{direction_at, is_at, is_either, is_open_port, is_strong, is_strong_port, is_weak}
use Rattle.erc_spec.specs.Findings.{capped, findings, findings_in, first_nets, is_driven, net_finding, pin_finding, strong_pins}
use Rattle.erc_spec.specs.Told.{CallsForNet, HasDriver, IsFirst, IsPin, Leads, told_net}
use Rattle.erc_spec.specs.declared.finding.Finding.TheVariants.{Undriven, Many, Open}
use Rattle.erc_spec.proofs.ItemLemmas.{first_nets-ascend, first_net_from, first_net_there, pin_from, pin_there}
use Rattle.erc_spec.proofs.MemberLemmas.{any-member, member-any, Member-flat_map, Member-from_flat_map}

module _ (d : Design) (items : List Item) where
  -- something is told of the net
  pub tells : NetAt → Bool
  tells x = cond (is_driven d items x) (nat_lt 1 (strong_pins d items x)) true

  told_of_net : (x : NetAt) → flat_map told_net (net_finding d items x) ≡ cond (tells x) (x ∷ []) []
  unfolding tells
  told_of_net x = by (is_driven d items x) (nat_lt 1 (strong_pins d items x))
    where
      by : (b c : Bool) → flat_map told_net (cond b (cond c (Many x (capped (strong_pins d items x)) ∷ []) []) (Undriven x ∷ [])) ≡ cond (cond b c true) (x ∷ []) []
      by true true = refl
      by true false = refl
      by false c = refl

  told_of_nets : (xs : List NetAt) → flat_map told_net (flat_map (net_finding d items) xs) ≡ filter tells xs
  told_of_nets [] = refl
  told_of_nets (x ∷ xs) =
      flat_map-append told_net (net_finding d items x) (flat_map (net_finding d items) xs)
      ∙ (ap (λ v. v ++ flat_map told_net (flat_map (net_finding d items) xs)) (told_of_net x)
      ∙ (ap (λ v. cond (tells x) (x ∷ []) [] ++ v) (told_of_nets xs) ∙ by (tells x)))
    where
      by : (b : Bool) → cond b (x ∷ []) [] ++ filter tells xs ≡ cond b (x ∷ filter tells xs) (filter tells xs)
      by true = refl
      by false = refl

  told_of_pin : (item : Item) → flat_map told_net (pin_finding d item) ≡ []
  told_of_pin (Enter path cell properties) = refl
  told_of_pin (Net path net first) = refl
  told_of_pin (Pin path port bit (Some first)) = refl
  told_of_pin (Pin path port bit None) = by (is_open_port path (direction_at d path port))
    where
      by : (b : Bool) → flat_map told_net (cond b (Open path port bit ∷ []) []) ≡ []
      by true = refl
      by false = refl

  told_of_pins : (all : List Item) → flat_map told_net (flat_map (pin_finding d) all) ≡ []
  told_of_pins [] = refl
  told_of_pins (item ∷ all) =
      flat_map-append told_net (pin_finding d item) (flat_map (pin_finding d) all)
      ∙ (ap (λ v. v ++ flat_map told_net (flat_map (pin_finding d) all)) (told_of_pin item) ∙ told_of_pins all)

  -- the nets that are told are some of the first nets, in their order
  pub told_nets : flat_map told_net (findings_in d items) ≡ filter tells (first_nets items)
  told_nets =
      flat_map-append told_net (flat_map (net_finding d items) (first_nets items)) (flat_map (pin_finding d) items)
      ∙ (ap (λ v. flat_map told_net (flat_map (net_finding d items) (first_nets items)) ++ v) (told_of_pins items)
      ∙ (append-nil (flat_map told_net (flat_map (net_finding d items) (first_nets items))) ∙ told_of_nets (first_nets items)))

  undriven_net : (x y : NetAt) → Member (net_finding d items x) (Undriven y) → (x ≡ y) × (is_driven d items x ≡ false)
  undriven_net x y = by (is_driven d items x) refl (nat_lt 1 (strong_pins d items x))
    where
      by : (b : Bool) → is_driven d items x ≡ b → (c : Bool) → Member (cond b (cond c (Many x (capped (strong_pins d items x)) ∷ []) []) (Undriven x ∷ [])) (Undriven y)
          → (x ≡ y) × (is_driven d items x ≡ false)
      by true is true m = elim m [ inl same ↦ absurd (cc) | inr none ↦ absurd none ]
      by true is false m = absurd m
      by false is c m = elim m [ inl same ↦ (cc, is) | inr none ↦ absurd none ]

  no_open_net : (x : NetAt) (path : List ℕ) (port bit : ℕ) → Member (net_finding d items x) (Open path port bit) → ⊥
  no_open_net x path port bit = by (is_driven d items x) (nat_lt 1 (strong_pins d items x))
    where
      by : (b c : Bool) → Member (cond b (cond c (Many x (capped (strong_pins d items x)) ∷ []) []) (Undriven x ∷ [])) (Open path port bit) → ⊥
      by true true m = elim m [ inl same ↦ cc | inr none ↦ none ]
      by true false m = m
      by false c m = elim m [ inl same ↦ cc | inr none ↦ none ]

  no_undriven_pin : (item : Item) (y : NetAt) → Member (pin_finding d item) (Undriven y) → ⊥
  no_undriven_pin (Enter path cell properties) y m = m
  no_undriven_pin (Net path net first) y m = m
  no_undriven_pin (Pin path port bit (Some first)) y m = m
  no_undriven_pin (Pin path port bit None) y m = by (is_open_port path (direction_at d path port)) m
    where
      by : (b : Bool) → Member (cond b (Open path port bit ∷ []) []) (Undriven y) → ⊥
      by true m = elim m [ inl same ↦ cc | inr none ↦ none ]
      by false m = m

  -- what is told to be undriven no item drives
  pub undriven_is_not_driven : (y : NetAt) → Member (findings_in d items) (Undriven y) → is_driven d items y ≡ false
  undriven_is_not_driven y m =
      elim (Member-append_cases (flat_map (net_finding d items) (first_nets items)) (flat_map (pin_finding d) items) (Undriven y) m) [
        | inl net ↦
            let found = Member-from_flat_map (net_finding d items) (first_nets items) (Undriven y) net in
            let is = undriven_net found.0 y found.2 in
            ap (is_driven d items) (sym is.0) ∙ is.1
        | inr pin ↦ let found = Member-from_flat_map (pin_finding d) items (Undriven y) pin in absurd (no_undriven_pin found.0 y found.2)
      ]

  pub undriven_from : (y : NetAt) → Member (first_nets items) y → is_driven d items y ≡ false → Member (findings_in d items) (Undriven y)
  undriven_from y first not_driven =
      Member-append_left (flat_map (net_finding d items) (first_nets items)) (flat_map (pin_finding d) items) (Undriven y)
      (Member-flat_map (net_finding d items) (first_nets items) y (Undriven y) first
      (subst (λ b. Member (cond b (cond (nat_lt 1 (strong_pins d items y)) (Many y (capped (strong_pins d items y)) ∷ []) []) (Undriven y ∷ [])) (Undriven y)) (sym not_driven) (inl refl)))

  open_pin : (item : Item) (path : List ℕ) (port bit : ℕ) → Member (pin_finding d item) (Open path port bit)
      → (item ≡ Pin path port bit None) × (is_open_port path (direction_at d path port) ≡ true)
  open_pin (Enter p cell properties) path port bit m = absurd m
  open_pin (Net p net first) path port bit m = absurd m
  open_pin (Pin p q r (Some first)) path port bit m = absurd m
  open_pin (Pin p q r None) path port bit m = by (is_open_port p (direction_at d p q)) refl m
    where
      by : (b : Bool) → is_open_port p (direction_at d p q) ≡ b → Member (cond b (Open p q r ∷ []) []) (Open path port bit)
          → (Pin p q r None ≡ Pin path port bit None) × (is_open_port path (direction_at d path port) ≡ true)
      by true is m =
          elim m [
            | inl same ↦
                let path_is : p ≡ path = cc same in
                let port_is : q ≡ port = cc same in
                let bit_is : r ≡ bit = cc same in
                (λ i. Pin (path_is i) (port_is i) (bit_is i) None, sym (λ i. is_open_port (path_is i) (direction_at d (path_is i) (port_is i))) ∙ is)
            | inr none ↦ absurd none
          ]
      by false is m = absurd m

  pub open_is_pin : (path : List ℕ) (port bit : ℕ) → Member (findings_in d items) (Open path port bit)
      → Member items (Pin path port bit None) × (is_open_port path (direction_at d path port) ≡ true)
  open_is_pin path port bit m =
      elim (Member-append_cases (flat_map (net_finding d items) (first_nets items)) (flat_map (pin_finding d) items) (Open path port bit) m) [
        | inl net ↦ let found = Member-from_flat_map (net_finding d items) (first_nets items) (Open path port bit) net in absurd (no_open_net found.0 path port bit found.2)
        | inr pin ↦
            let found = Member-from_flat_map (pin_finding d) items (Open path port bit) pin in
            let is = open_pin found.0 path port bit found.2 in
            (subst (λ v. Member items v) is.0 found.1, is.1)
      ]

  pub open_from : (path : List ℕ) (port bit : ℕ) → Member items (Pin path port bit None) → is_open_port path (direction_at d path port) ≡ true
      → Member (findings_in d items) (Open path port bit)
  open_from path port bit m is =
      Member-append_right (flat_map (net_finding d items) (first_nets items)) (flat_map (pin_finding d) items) (Open path port bit)
      (Member-flat_map (pin_finding d) items (Pin path port bit None) (Open path port bit) m
      (subst (λ b. Member (cond b (Open path port bit ∷ []) []) (Open path port bit)) (sym is) (inl refl)))

pub joins_net : (d : Design) (root : CellId) (x : NetAt) (path : List ℕ) (b : Bit) → JoinsPin d root x path b → IsNet d root x
joins_net d root x [] b j = Joins-net d root x (own b) j.1
joins_net d root x (i ∷ path) b j = Joins-net d root x (on j.0 b) j.2

module _ (d : Design) (top : TopHead) (valid : IsValid d) (is : d.top ≡ Some top) where
  pub told_in_order : Ascends NetBefore (flat_map told_net (findings d))
  told_in_order =
      subst (Ascends NetBefore) (sym (told_nets d (flattening d)))
      (Ascends-filter NetBefore (tells d (flattening d)) (first_nets (flattening d)) (first_nets-ascend d top is))

  pub told_is_first : (x : NetAt) → Member (flat_map told_net (findings d)) x → IsFirst d top.cell x
  told_is_first x m =
      first_net_there d top is valid.no_cycle x
      (Member-from_filter (tells d (flattening d)) (first_nets (flattening d)) x (subst (λ xs. Member xs x) (told_nets d (flattening d)) m)).0

  -- the test of items tells whether a pin that drives is joined by a connected net
  module _ (x : NetAt) (there : IsNet d top.cell x) where
    pub is_first : IsFirst d top.cell (representative d top.cell x)
    is_first =
        let connected = (representative-first d valid.no_cycle top.cell x there).connected in (
          Connected-net d top.cell x (representative d top.cell x) connected there,
          sym (representative-connected d valid.no_cycle top.cell x (representative d top.cell x) (Connected-net d top.cell x (representative d top.cell x) connected there) connected),
        )

    -- a pin to which the net leads, as an item
    pub pin_of_lead : (path : List ℕ) (b : Bit) → Leads d top.cell x path b → Member (flattening d) (Pin path b.port b.bit (Some (representative d top.cell x)))
    pin_of_lead path b leads =
        let first = representative d top.cell x in
        let net = leads.net in
        let same : representative d top.cell net ≡ first = sym (representative-connected d valid.no_cycle top.cell x net (joins_net d top.cell net path b leads.joins) leads.connected) in
        let at : option_map (representative d top.cell) (net_at_pin d top.cell path b) ≡ Some first =
        ap (option_map (representative d top.cell)) (net_at_pin-from d valid top.cell path b net leads.joins) ∙ ap (λ v. Some v) same in
        subst (λ o. Member (flattening d) (Pin path b.port b.bit o)) at (pin_from d top is valid.no_cycle path b leads.pin)

    -- and back
    pub lead_of_pin : (path : List ℕ) (port bit : ℕ) (z : NetAt) → Member (flattening d) (Pin path port bit (Some z)) → same_net z (representative d top.cell x) ≡ true
        → Leads d top.cell x path (record { port = port; bit = bit })
    lead_of_pin path port bit z m at =
        let first = representative d top.cell x in
        let b : Bit = record { port = port; bit = bit } in
        let pin = pin_there d top is valid.no_cycle path port bit (Some z) m in
        let net = map-parts (representative d top.cell) (net_at_pin d top.cell path b) z (sym pin.1) in
        let joins = net_at_pin-joins d top.cell path b net.0 net.1 in
        let same : representative d top.cell x ≡ representative d top.cell net.0 = sym (net.2 ∙ same_net-true z first at) in
        record {
          net = net.0;
          pin = pin.0;
          joins = joins;
          connected = representative-same d valid.no_cycle top.cell x net.0 there (joins_net d top.cell net.0 path b joins) same;
        }

    driven_from : HasDriver d top.cell x → is_driven d (flattening d) (representative d top.cell x) ≡ true
    driven_from (path, b, leads, drives) =
        let first = representative d top.cell x in
        member-any (λ i. (is_strong d i || is_weak d i) && is_at first i) (flattening d) (Pin path b.port b.bit (Some first)) (pin_of_lead path b leads)
        (and_from _ _ drives (same_net-refl first))

    driver_of : (item : Item) → Member (flattening d) item → ((is_strong d item || is_weak d item) && is_at (representative d top.cell x) item) ≡ true → HasDriver d top.cell x
    driver_of (Enter path cell properties) m h = absurd (true≢false (sym h))
    driver_of (Net path net other) m h = absurd (true≢false (sym h))
    driver_of (Pin path port bit None) m h = absurd (true≢false (sym (and_parts (is_strong_port path (direction_at d path port) || is_either (direction_at d path port)) false h).1))
    driver_of (Pin path port bit (Some z)) m h =
        let parts = and_parts (is_strong_port path (direction_at d path port) || is_either (direction_at d path port)) (same_net z (representative d top.cell x)) h in
        (path, record { port = port; bit = bit }, lead_of_pin path port bit z m parts.1, parts.0)

    pub undriven_is_exact : Contains (findings d) (Undriven (representative d top.cell x)) ↔ (HasDriver d top.cell x → ⊥)
    undriven_is_exact = (
      λ told driver.
          true≢false (sym (driven_from driver) ∙ undriven_is_not_driven d (flattening d) (representative d top.cell x) (Contains-member (findings d) (Undriven (representative d top.cell x)) told)),
      λ none.
          Member-contains (findings d) (Undriven (representative d top.cell x))
          (undriven_from d (flattening d) (representative d top.cell x) (first_net_from d top is valid.no_cycle (representative d top.cell x) is_first)
          (false_from_ne_true (is_driven d (flattening d) (representative d top.cell x))
          (λ driven.
          let found = any-member (λ i. (is_strong d i || is_weak d i) && is_at (representative d top.cell x) i) (flattening d) driven in
          none (driver_of found.0 found.1 found.2)))),
    )

  pub open_is_exact : (path : List ℕ) (b : Bit) → Contains (findings d) (Open path b.port b.bit)
      ↔ (IsPin d top.cell path b × CallsForNet d path b × ((x : NetAt) → JoinsPin d top.cell x path b → ⊥))
  open_is_exact path b = (
    λ told.
        let found = open_is_pin d (flattening d) path b.port b.bit (Contains-member (findings d) (Open path b.port b.bit) told) in
        let pin = pin_there d top is valid.no_cycle path b.port b.bit None found.0 in
        (pin.0, found.1, λ x joins. let at = net_at_pin-from d valid top.cell path b x joins in absurd (cc (pin.1 ∙ ap (option_map (representative d top.cell)) at))),
    λ h.
        let none : (o : Option NetAt) → net_at_pin d top.cell path b ≡ o → option_map (representative d top.cell) o ≡ None = λ o. elim o as (λ v. net_at_pin d top.cell path b ≡ v → option_map (representative d top.cell) v ≡ None) [
          | None ↦ λ e. refl
          | Some x ↦ λ e. absurd (h.2 x (net_at_pin-joins d top.cell path b x e))
        ] in
        Member-contains (findings d) (Open path b.port b.bit)
        (open_from d (flattening d) path b.port b.bit
        (subst (λ o. Member (flattening d) (Pin path b.port b.bit o)) (none (net_at_pin d top.cell path b) refl) (pin_from d top is valid.no_cycle path b h.0)) h.1),
  )
