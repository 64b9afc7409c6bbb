-- Pins that are told come in order, and behind all nets.
use Rattle.std.proofs.Common.{◌≡◌, List, [], ◌∷◌, ◌++◌, Bool, true, false, ◌&&◌, cond, Some, None, refl, sym, ap, subst, ◌∙◌, inl, inr}
use Rattle.std.specs.Prelude.{is_none, nat_lt}
use Rattle.std.specs.List.{flat_map}
use Rattle.std.proofs.lemmas.Grind.{flat_map-append}
use Rattle.netlist_schema.specs.Design.{Design}
use Rattle.netlist_schema.specs.Types.{TopHead}
use Rattle.netlist_schema.specs.Valid.{IsValid}
use Rattle.flat_spec.specs.Flattening.{flattening}
use Rattle.flat_spec.specs.Occurrences.{occurrences}
use Rattle.flat_spec.specs.Types.{Item, NetAt}
use Rattle.flat_spec.specs.declared.item.Item.TheVariants.{Enter, Net, Pin}
use Rattle.flat_spec.proofs.ListLemmas.{Ascends, Ascends-append, Member}
use Rattle.flat_spec.proofs.OccurrenceLemmas.{OccurrenceBefore, occurrences_are_all}
use Rattle.flat_spec.proofs.PinLemmas.{AllPairs-ascends}
use Rattle.erc_spec.specs.Drives.{direction_at, is_open_port}
use Rattle.erc_spec.specs.Findings.{capped, findings, findings_in, first_nets, is_driven, net_finding, pin_finding, strong_pins}
use Rattle.erc_spec.specs.Told.{NetComesFirst, PinBefore, told_net, told_pin}
use Rattle.erc_spec.specs.Types.{Finding}
use Rattle.erc_spec.specs.declared.finding.Finding.TheVariants.{Undriven, Many, Open}
use Rattle.erc_spec.proofs.ItemLemmas.{flat}
use Rattle.erc_spec.proofs.MemberLemmas.{Member-from_flat_map}
use Rattle.erc_spec.proofs.PinOrder.{part, part-ascends, pin_at, pins-ascend}

-- the pins of the flattening are in order
pub all_pins-ascend : (d : Design) (top : TopHead) → IsValid d → d.top ≡ Some top → Ascends PinBefore (flat_map pin_at (flattening d))
all_pins-ascend d top valid is =
    subst (λ items. Ascends PinBefore (flat_map pin_at items)) (sym (flat d top is))
    (pins-ascend d top (occurrences d top.cell) (AllPairs-ascends OccurrenceBefore (occurrences d top.cell) (occurrences_are_all d top.cell valid.no_cycle).in_order))

-- where each two of a list are related, the list is in order
pub related-ascend : {A : Type 0} (R : A → A → Type 0) (xs : List A) → ((x y : A) → Member xs x → Member xs y → R x y) → Ascends R xs
related-ascend R [] all = tt
related-ascend R (x ∷ xs) all = (λ y m. all x y (inl refl) (inr m), related-ascend R xs (λ y z m k. all y z (inr m) (inr k)))

module _ (d : Design) where
  -- the item is a pin that is told to be open
  is_told : Item → Bool
  is_told (Enter path cell properties) = false
  is_told (Net path net first) = false
  is_told (Pin path port bit first) = is_none first && is_open_port path (direction_at d path port)

  pin_of_item : (item : Item) → flat_map told_pin (pin_finding d item) ≡ part PinBefore pin_at is_told item
  unfolding is_told
  pin_of_item (Enter path cell properties) = refl
  pin_of_item (Net path net first) = refl
  pin_of_item (Pin path port bit (Some first)) = refl
  pin_of_item (Pin path port bit None) = by (is_open_port path (direction_at d path port))
    where
      by : (b : Bool) → flat_map told_pin (cond b (Open path port bit ∷ []) []) ≡ cond b ((path, record { port = port; bit = bit }) ∷ []) []
      by true = refl
      by false = refl

  pins_of_items : (items : List Item) → flat_map told_pin (flat_map (pin_finding d) items) ≡ flat_map (part PinBefore pin_at is_told) items
  pins_of_items [] = refl
  pins_of_items (item ∷ items) =
      flat_map-append told_pin (pin_finding d item) (flat_map (pin_finding d) items) ∙ λ i. pin_of_item item i ++ pins_of_items items i

  module _ (items : List Item) where
    pin_of_net : (x : NetAt) → flat_map told_pin (net_finding d items x) ≡ []
    pin_of_net x = by (is_driven d items x) (nat_lt 1 (strong_pins d items x))
      where
        by : (b c : Bool) → flat_map told_pin (cond b (cond c (Many x (capped (strong_pins d items x)) ∷ []) []) (Undriven x ∷ [])) ≡ []
        by true true = refl
        by true false = refl
        by false c = refl

    pins_of_nets : (xs : List NetAt) → flat_map told_pin (flat_map (net_finding d items) xs) ≡ []
    pins_of_nets [] = refl
    pins_of_nets (x ∷ xs) =
        flat_map-append told_pin (net_finding d items x) (flat_map (net_finding d items) xs) ∙ λ i. pin_of_net x i ++ pins_of_nets xs i

    told_pins : flat_map told_pin (findings_in d items) ≡ flat_map (part PinBefore pin_at is_told) items
    told_pins =
        flat_map-append told_pin (flat_map (net_finding d items) (first_nets items)) (flat_map (pin_finding d) items)
        ∙ λ i. pins_of_nets (first_nets items) i ++ pins_of_items items i

    net_is_no_pin : (x : NetAt) (f : Finding) → Member (net_finding d items x) f → told_pin f ≡ []
    net_is_no_pin x f = by (is_driven d items x) (nat_lt 1 (strong_pins d items x))
      where
        by : (b c : Bool) → Member (cond b (cond c (Many x (capped (strong_pins d items x)) ∷ []) []) (Undriven x ∷ [])) f → told_pin f ≡ []
        by true true m = elim m [ inl same ↦ ap told_pin (sym same) | inr none ↦ absurd none ]
        by true false m = absurd m
        by false c m = elim m [ inl same ↦ ap told_pin (sym same) | inr none ↦ absurd none ]

    pin_is_no_net : (item : Item) (f : Finding) → Member (pin_finding d item) f → told_net f ≡ []
    pin_is_no_net (Enter path cell properties) f m = absurd m
    pin_is_no_net (Net path net first) f m = absurd m
    pin_is_no_net (Pin path port bit (Some first)) f m = absurd m
    pin_is_no_net (Pin path port bit None) f m = by (is_open_port path (direction_at d path port)) m
      where
        by : (b : Bool) → Member (cond b (Open path port bit ∷ []) []) f → told_net f ≡ []
        by true m = elim m [ inl same ↦ ap told_net (sym same) | inr none ↦ absurd none ]
        by false m = absurd m

    of_net : (f : Finding) → Member (flat_map (net_finding d items) (first_nets items)) f → told_pin f ≡ []
    of_net f m = let found = Member-from_flat_map (net_finding d items) (first_nets items) f m in net_is_no_pin found.0 f found.2

    of_pin : (f : Finding) → Member (flat_map (pin_finding d) items) f → told_net f ≡ []
    of_pin f m = let found = Member-from_flat_map (pin_finding d) items f m in pin_is_no_net found.0 f found.2

    pub pins_come_last : Ascends NetComesFirst (findings_in d items)
    pins_come_last =
        Ascends-append NetComesFirst (flat_map (net_finding d items) (first_nets items)) (flat_map (pin_finding d) items)
        (related-ascend NetComesFirst (flat_map (net_finding d items) (first_nets items)) (λ f g m k. inl (of_net f m)))
        (related-ascend NetComesFirst (flat_map (pin_finding d) items) (λ f g m k. inr (of_pin g k)))
        (λ f g m k. inl (of_net f m))

  pub told_pins-ascend : (top : TopHead) → IsValid d → d.top ≡ Some top → Ascends PinBefore (flat_map told_pin (findings d))
  told_pins-ascend top valid is =
      subst (Ascends PinBefore) (sym (told_pins (flattening d)))
      (part-ascends PinBefore pin_at is_told (flattening d) (all_pins-ascend d top valid is))
