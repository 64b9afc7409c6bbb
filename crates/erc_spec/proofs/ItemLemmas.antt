-- The items of a flattening.
use Rattle.std.proofs.Common.{◌≡◌, ℕ, List, [], ◌∷◌, ◌++◌, map, Bool, true, false, cond, Option, Some, refl, sym, ap, subst, ◌∙◌, inl, inr, append-nil}
use Rattle.std.specs.Prelude.{filter}
use Rattle.std.specs.List.{Contains, flat_map}
use Rattle.std.specs.Option.{option_map, option_map_or}
use Rattle.std.proofs.lemmas.Grind.{flat_map-append}
use Rattle.std.proofs.lemmas.List.Elements.{filter-append}
use Rattle.netlist_schema.specs.Design.{Design}
use Rattle.netlist_schema.specs.Hierarchy.{NoCellIsBelowItself}
use Rattle.netlist_schema.specs.Types.{TopHead}
use Rattle.flat_spec.specs.ConnectionTest.{same_net}
use Rattle.flat_spec.specs.Flattening.{flattening, items_of, net_item, pin_item}
use Rattle.flat_spec.specs.Occurrences.{Occurrence, occurrences, nets, own_nets}
use Rattle.flat_spec.specs.PathOrder.{NetBefore}
use Rattle.flat_spec.specs.Paths.{Bit, Reaches}
use Rattle.flat_spec.specs.Pins.{net_at_pin}
use Rattle.flat_spec.specs.Representatives.{representative}
use Rattle.flat_spec.specs.Types.{Item, NetAt}
use Rattle.flat_spec.specs.declared.item.Item.TheVariants.{Pin}
use Rattle.flat_spec.proofs.ListLemmas.{Ascends, Ascends-filter, Contains-member, Member, Member-append_cases, Member-append_right, Member-contains, Member-filter, Member-from_filter, Member-from_map, Member-map}
use Rattle.flat_spec.proofs.OccurrenceLemmas.{nets-ascends, nets-is_net, nets-member, occurrences-member, occurrences-reaches}
use Rattle.flat_spec.proofs.TestLemmas.{same_net-refl, same_net-true}
use Rattle.erc_spec.specs.Findings.{first_net, first_nets}
use Rattle.erc_spec.specs.Told.{IsFirst, IsPin, pin_bits}
use Rattle.erc_spec.proofs.MemberLemmas.{Member-flat_map, Member-from_flat_map}

module _ (d : Design) (top : TopHead) where
  pins : Occurrence → List Item
  pins o = map (pin_item d top.cell o.path) (pin_bits d o.path o.cell)

  own : Occurrence → List Item
  own o = map (net_item d top.cell) (own_nets d o)

  pub flat : d.top ≡ Some top → flattening d ≡ flat_map (items_of d top) (occurrences d top.cell)
  flat is = ap (λ o. option_map_or (λ (t : TopHead). flat_map (items_of d t) (occurrences d t.cell)) o []) is

  -- a pin that is shown is of the top, or of a leaf below it, with the representative of the net that joins it
  own_pin : (o : Occurrence) (path : List ℕ) (port bit : ℕ) (first : Option NetAt) → Member (items_of d top o) (Pin path port bit first)
      → (b : Bit) × Member (pin_bits d o.path o.cell) b × (pin_item d top.cell o.path b ≡ Pin path port bit first)
  unfolding own pins
  own_pin o path port bit first m =
      elim m [
        | inl same ↦ absurd (cc)
        | inr rest ↦ elim (Member-append_cases (own o) (pins o) (Pin path port bit first) rest) [
          | inl net ↦ let from = Member-from_map (net_item d top.cell) (own_nets d o) (Pin path port bit first) net in absurd (cc (from.2))
          | inr pin ↦ Member-from_map (pin_item d top.cell o.path) (pin_bits d o.path o.cell) (Pin path port bit first) pin
        ]
      ]

  pub pin_there : d.top ≡ Some top → NoCellIsBelowItself d → (path : List ℕ) (port bit : ℕ) (first : Option NetAt) → Member (flattening d) (Pin path port bit first)
      → IsPin d top.cell path (record { port = port; bit = bit })
      × (first ≡ option_map (representative d top.cell) (net_at_pin d top.cell path (record { port = port; bit = bit })))
  unfolding flat
  pin_there is acyclic path port bit first m =
      let found = Member-from_flat_map (items_of d top) (occurrences d top.cell) (Pin path port bit first) (subst (λ items. Member items (Pin path port bit first)) (flat is) m) in
      let o = found.0 in
      let pin = own_pin o path port bit first found.2 in
      let path_is : o.path ≡ path = cc (pin.2) in
      let port_is : pin.0.port ≡ port = cc (pin.2) in
      let bit_is : pin.0.bit ≡ bit = cc (pin.2) in
      let first_is : option_map (representative d top.cell) (net_at_pin d top.cell o.path pin.0) ≡ first = cc (pin.2) in
      let b : Bit = record { port = port; bit = bit } in
      let b_is : pin.0 ≡ b = λ i. record { port = port_is i; bit = bit_is i } in
      let at : Reaches d top.cell path o.cell = subst (λ p. Reaches d top.cell p o.cell) path_is (occurrences-reaches d acyclic top.cell o found.1) in
      let shown : Member (pin_bits d path o.cell) pin.0 = subst (λ p. Member (pin_bits d p o.cell) pin.0) path_is pin.1 in
      let there : Contains (pin_bits d path o.cell) b = Member-contains (pin_bits d path o.cell) b (subst (λ v. Member (pin_bits d path o.cell) v) b_is shown) in
      ((o.cell, at, there), sym first_is ∙ λ i. option_map (representative d top.cell) (net_at_pin d top.cell (path_is i) (b_is i)))

  pub pin_from : d.top ≡ Some top → NoCellIsBelowItself d → (path : List ℕ) (b : Bit) → IsPin d top.cell path b
      → Member (flattening d) (Pin path b.port b.bit (option_map (representative d top.cell) (net_at_pin d top.cell path b)))
  unfolding flat own pins
  pin_from is acyclic path b pin =
      let o : Occurrence = record { path = path; cell = pin.0 } in
      let item = pin_item d top.cell path b in
      let shown : Member (pins o) item = Member-map (pin_item d top.cell path) (pin_bits d path pin.0) b (Contains-member (pin_bits d path pin.0) b pin.2) in
      let m : Member (items_of d top o) item = inr (Member-append_right (own o) (pins o) item shown) in
      subst (λ items. Member items item) (sym (flat is))
      (Member-flat_map (items_of d top) (occurrences d top.cell) o item (occurrences-member d acyclic top.cell o pin.1) m)

  -- the net is the first of those connected with it, as a test
  abbrev pub is_own : NetAt → Bool
  is_own x = same_net x (representative d top.cell x)

  firsts_of_nets : (xs : List NetAt) → flat_map first_net (map (net_item d top.cell) xs) ≡ filter is_own xs
  firsts_of_nets [] = refl
  firsts_of_nets (x ∷ xs) = by (same_net x (representative d top.cell x)) refl (firsts_of_nets xs)
    where
      by : (b : Bool) → same_net x (representative d top.cell x) ≡ b → flat_map first_net (map (net_item d top.cell) xs) ≡ filter is_own xs
          → cond b (representative d top.cell x ∷ []) [] ++ flat_map first_net (map (net_item d top.cell) xs) ≡ cond b (x ∷ filter is_own xs) (filter is_own xs)
      by true same rest = ap (λ v. v ∷ flat_map first_net (map (net_item d top.cell) xs)) (sym (same_net-true x (representative d top.cell x) same)) ∙ ap (λ v. x ∷ v) rest
      by false same rest = rest

  firsts_of_pins : (path : List ℕ) (bs : List Bit) → flat_map first_net (map (pin_item d top.cell path) bs) ≡ []
  firsts_of_pins path [] = refl
  firsts_of_pins path (b ∷ bs) = firsts_of_pins path bs

  firsts_of_occurrence : (o : Occurrence) → flat_map first_net (items_of d top o) ≡ filter is_own (own_nets d o)
  firsts_of_occurrence o =
      flat_map-append first_net (map (net_item d top.cell) (own_nets d o)) (map (pin_item d top.cell o.path) (pin_bits d o.path o.cell))
      ∙ (ap (λ v. flat_map first_net (map (net_item d top.cell) (own_nets d o)) ++ v) (firsts_of_pins o.path (pin_bits d o.path o.cell))
      ∙ (append-nil (flat_map first_net (map (net_item d top.cell) (own_nets d o))) ∙ firsts_of_nets (own_nets d o)))

  firsts_of_all : (os : List Occurrence) → flat_map first_net (flat_map (items_of d top) os) ≡ filter is_own (flat_map (own_nets d) os)
  firsts_of_all [] = refl
  firsts_of_all (o ∷ os) =
      flat_map-append first_net (items_of d top o) (flat_map (items_of d top) os)
      ∙ (ap (λ v. v ++ flat_map first_net (flat_map (items_of d top) os)) (firsts_of_occurrence o)
      ∙ (ap (λ v. filter is_own (own_nets d o) ++ v) (firsts_of_all os)
      ∙ sym (filter-append is_own (own_nets d o) (flat_map (own_nets d) os))))

  -- the first nets of the flattening are those of all nets that are their own first, in order
  pub first_nets_are : d.top ≡ Some top → first_nets (flattening d) ≡ filter is_own (nets d top.cell)
  unfolding flat
  first_nets_are is = ap first_nets (flat is) ∙ firsts_of_all (occurrences d top.cell)

  pub first_nets-ascend : d.top ≡ Some top → Ascends NetBefore (first_nets (flattening d))
  first_nets-ascend is = subst (Ascends NetBefore) (sym (first_nets_are is)) (Ascends-filter NetBefore is_own (nets d top.cell) (nets-ascends d top.cell))

  pub first_net_there : d.top ≡ Some top → NoCellIsBelowItself d → (x : NetAt) → Member (first_nets (flattening d)) x → IsFirst d top.cell x
  first_net_there is acyclic x m =
      let from = Member-from_filter is_own (nets d top.cell) x (subst (λ xs. Member xs x) (first_nets_are is) m) in
      (nets-is_net d acyclic top.cell x from.0, sym (same_net-true x (representative d top.cell x) from.1))

  pub first_net_from : d.top ≡ Some top → NoCellIsBelowItself d → (x : NetAt) → IsFirst d top.cell x → Member (first_nets (flattening d)) x
  first_net_from is acyclic x first =
      subst (λ xs. Member xs x) (sym (first_nets_are is))
      (Member-filter is_own (nets d top.cell) x (nets-member d acyclic top.cell x first.0) (ap (same_net x) first.1 ∙ same_net-refl x))
