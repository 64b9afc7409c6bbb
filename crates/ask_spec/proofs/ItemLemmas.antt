-- Occurrences and nets among the items of a flattening.
use Rattle.std.proofs.Common.{◌≡◌, ℕ, List, map, refl, sym, ap, subst, ◌∙◌, inl, inr}
use Rattle.netlist_schema.specs.Design.{Design}
use Rattle.netlist_schema.specs.Hierarchy.{NoCellIsBelowItself}
use Rattle.netlist_schema.specs.Types.{CellId, Property, TopHead}
use Rattle.std.proofs.Common.{Some}
use Rattle.flat_spec.specs.Effective.{effective}
use Rattle.flat_spec.specs.Flattening.{flattening, items_of, net_item, pin_item}
use Rattle.flat_spec.specs.Occurrences.{Occurrence, occurrences, own_nets}
use Rattle.flat_spec.specs.Paths.{IsNet, Reaches, at_path}
use Rattle.flat_spec.specs.Representatives.{representative}
use Rattle.flat_spec.specs.Types.{Item, NetAt}
use Rattle.flat_spec.specs.declared.item.Item.TheVariants.{Enter, Net}
use Rattle.flat_spec.proofs.ListLemmas.{Member, Member-append_cases, Member-append_left, Member-from_map, Member-map}
use Rattle.flat_spec.proofs.OccurrenceLemmas.{nets-is_net, nets-member, occurrences-member, occurrences-reaches}
use Rattle.erc_spec.specs.Told.{pin_bits}
use Rattle.erc_spec.proofs.ItemLemmas.{flat}
use Rattle.erc_spec.proofs.MemberLemmas.{Member-flat_map, Member-from_flat_map}

module _ (d : Design) (top : TopHead) (is : d.top ≡ Some top) (acyclic : NoCellIsBelowItself d) where
  own : Occurrence → List Item
  own o = map (net_item d top.cell) (own_nets d o)

  pins : Occurrence → List Item
  pins o = map (pin_item d top.cell o.path) (pin_bits d o.path o.cell)

  whole : (item : Item) → Member (flattening d) item → (o : Occurrence) × Member (occurrences d top.cell) o × Member (items_of d top o) item
  whole item m = Member-from_flat_map (items_of d top) (occurrences d top.cell) item (subst (λ items. Member items item) (flat d top is) m)

  part : (o : Occurrence) (item : Item) → Member (occurrences d top.cell) o → Member (items_of d top o) item → Member (flattening d) item
  part o item at m = subst (λ items. Member items item) (sym (flat d top is)) (Member-flat_map (items_of d top) (occurrences d top.cell) o item at m)

  pub enter_from : (path : List ℕ) (c : CellId) → Reaches d top.cell path c → Member (flattening d) (Enter path c (effective d top path))
  enter_from path c at =
      let o : Occurrence = record { path = path; cell = c } in
      part o (Enter path c (effective d top path)) (occurrences-member d acyclic top.cell o at) (inl refl)

  pub enter_there : (path : List ℕ) (c : CellId) (properties : List Property) → Member (flattening d) (Enter path c properties)
      → Reaches d top.cell path c × (effective d top path ≡ properties)
  unfolding own pins
  enter_there path c properties m =
      let found = whole (Enter path c properties) m in
      let o = found.0 in
      elim found.2 [
        | inl same ↦
            let path_is : o.path ≡ path = cc same in
            let cell_is : o.cell ≡ c = cc same in
            let properties_are : effective d top o.path ≡ properties = cc same in (
              subst (λ p. Reaches d top.cell p c) path_is (subst (λ (v : CellId). Reaches d top.cell o.path v) cell_is (occurrences-reaches d acyclic top.cell o found.1)),
              ap (effective d top) (sym path_is) ∙ properties_are,
            )
        | inr rest ↦ elim (Member-append_cases (own o) (pins o) (Enter path c properties) rest) [
          | inl net ↦ let from = Member-from_map (net_item d top.cell) (own_nets d o) (Enter path c properties) net in absurd (cc (from.2))
          | inr pin ↦ let from = Member-from_map (pin_item d top.cell o.path) (pin_bits d o.path o.cell) (Enter path c properties) pin in absurd (cc (from.2))
        ]
      ]

  pub net_from : (x : NetAt) → IsNet d top.cell x → Member (flattening d) (Net x.path x.net (representative d top.cell x))
  unfolding own pins
  net_from x there =
      let found = Member-from_flat_map (own_nets d) (occurrences d top.cell) x (nets-member d acyclic top.cell x there) in
      let item = net_item d top.cell x in
      part found.0 item found.1
      (inr (Member-append_left (own found.0) (pins found.0) item (Member-map (net_item d top.cell) (own_nets d found.0) x found.2)))

  pub net_there : (path : List ℕ) (n : ℕ) (first : NetAt) → Member (flattening d) (Net path n first)
      → IsNet d top.cell (at_path path n) × (first ≡ representative d top.cell (at_path path n))
  unfolding own pins
  net_there path n first m =
      let found = whole (Net path n first) m in
      let o = found.0 in
      elim found.2 [
        | inl same ↦ absurd (cc same)
        | inr rest ↦ elim (Member-append_cases (own o) (pins o) (Net path n first) rest) [
          | inl net ↦
              let from = Member-from_map (net_item d top.cell) (own_nets d o) (Net path n first) net in
              let x = from.0 in
              let path_is : x.path ≡ path = cc (from.2) in
              let net_is : x.net ≡ n = cc (from.2) in
              let first_is : representative d top.cell x ≡ first = cc (from.2) in
              let x_is : x ≡ at_path path n = λ i. record { path = path_is i; net = net_is i } in
              let there : IsNet d top.cell x = nets-is_net d acyclic top.cell x (Member-flat_map (own_nets d) (occurrences d top.cell) o x found.1 from.1) in
              (subst (λ v. IsNet d top.cell v) x_is there, sym first_is ∙ ap (representative d top.cell) x_is)
          | inr pin ↦ let from = Member-from_map (pin_item d top.cell o.path) (pin_bits d o.path o.cell) (Net path n first) pin in absurd (cc (from.2))
        ]
      ]
