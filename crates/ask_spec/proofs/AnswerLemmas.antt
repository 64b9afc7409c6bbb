-- The laws, with and without a top.
use Rattle.std.proofs.Common.{◌≡◌, ◌<◌, ℕ, List, [], length, Option, Some, None, refl, sym, ap, subst, ◌∙◌}
use Rattle.std.specs.Prelude.{option_and_then}
use Rattle.std.specs.List.{Contains, flat_map}
use Rattle.std.specs.Option.{option_map, option_map_or}
use Rattle.std.proofs.lemmas.Option.{same_Some}
use Rattle.netlist_schema.specs.Design.{Design}
use Rattle.netlist_schema.specs.Types.{TopHead}
use Rattle.flat_spec.specs.Effective.{effective}
use Rattle.flat_spec.specs.Flattening.{flattening, items_of}
use Rattle.flat_spec.specs.Occurrences.{occurrences}
use Rattle.flat_spec.specs.Paths.{Bit, at_path}
use Rattle.flat_spec.specs.Pins.{net_at_pin}
use Rattle.flat_spec.specs.Representatives.{representative}
use Rattle.flat_spec.specs.Types.{Item}
use Rattle.flat_spec.specs.declared.item.Item.TheVariants.{Enter, Net, Pin}
use Rattle.flat_spec.proofs.ListLemmas.{Contains-member, Member, Member-contains, Member-from_filter}
use Rattle.flat_spec.proofs.PathLemmas.{IsNet-from, IsNet-parts}
use Rattle.erc_spec.specs.Drives.{is_at}
use Rattle.erc_spec.proofs.ItemLemmas.{pin_from, pin_there}
use Rattle.ask_spec.specs.Nets.{first_of, net_of, pins_of}
use Rattle.ask_spec.specs.Told.{NetsAreTold, OccurrencesAreTold, OnlyPinsAreThere, PinsAreParted, PinsAreTold}
use Rattle.ask_spec.proofs.ClassLemmas.{at_pin, first_is, named_is_first, pin_is_of}
use Rattle.ask_spec.proofs.ItemLemmas.{enter_from, enter_there, net_from, net_there}
use Rattle.ask_spec.proofs.PlaceLemmas.{at-reaches, bits-at, bits-there, nets-at, nets-there, properties-at, reaches-at}

-- where there is an item, there is a top
pub has_top : (d : Design) (item : Item) → Member (flattening d) item → (top : TopHead) × (d.top ≡ Some top)
has_top d item m = go d.top refl m
  where
    go : (o : Option TopHead) → d.top ≡ o → Member (option_map_or (λ (t : TopHead). flat_map (items_of d t) (occurrences d t.cell)) o []) item
        → (top : TopHead) × (d.top ≡ Some top)
    go None is m = absurd m
    go (Some top) is m = (top, is)

pub net_of_is : (d : Design) (top : TopHead) → d.top ≡ Some top → (path : List ℕ) (port bit : ℕ)
    → net_of d path port bit ≡ option_map (representative d top.cell) (net_at_pin d top.cell path (record { port = port; bit = bit }))
net_of_is d top is path port bit =
    ap (option_and_then (λ (t : TopHead). option_map (representative d t.cell) (net_at_pin d t.cell path (record { port = port; bit = bit })))) is

pub occurrences_are_told : OccurrencesAreTold
occurrences_are_told d path c properties valid = (
  λ there.
      let way = at-reaches d path c there.0 in
      let same : effective d way.0 path ≡ properties = same_Some (effective d way.0 path) properties (sym (properties-at d way.0 path c way.1 way.2) ∙ there.1) in
      Member-contains (flattening d) (Enter path c properties)
      (subst (λ ps. Member (flattening d) (Enter path c ps)) same (enter_from d way.0 way.1 valid.no_cycle path c way.2)),
  λ has.
      let m = Contains-member (flattening d) (Enter path c properties) has in
      let top = has_top d (Enter path c properties) m in
      let there = enter_there d top.0 top.1 valid.no_cycle path c properties m in
      (reaches-at d top.0 path c top.1 there.0, properties-at d top.0 path c top.1 there.0 ∙ ap Some there.1),
)

pub nets_are_told : NetsAreTold
nets_are_told d path n first valid = (
  λ has.
      let m = Contains-member (flattening d) (Net path n first) has in
      let top = has_top d (Net path n first) m in
      let there = net_there d top.0 top.1 valid.no_cycle path n first m in
      let parts = IsNet-parts d top.0.cell (at_path path n) there.0 in
      let here = nets-at d path parts.0 (reaches-at d top.0 path parts.0 top.1 parts.1) in
      (subst (λ v. n < length v) (sym here) parts.2, there.1 ∙ sym (first_is d top.0 top.1 (at_path path n))),
  λ h.
      let up = nets-there d path n h.0 in
      let way = at-reaches d path up.0 up.1 in
      let item = net_from d way.0 way.1 valid.no_cycle (at_path path n) (IsNet-from d way.0.cell up.0 path n way.2 up.2) in
      Member-contains (flattening d) (Net path n first)
      (subst (λ v. Member (flattening d) (Net path n v)) (sym (h.1 ∙ first_is d way.0 way.1 (at_path path n))) item),
)

pub pins_are_told : PinsAreTold
pins_are_told d path port bit first valid = (
  λ has.
      let m = Contains-member (flattening d) (Pin path port bit first) has in
      let top = has_top d (Pin path port bit first) m in
      let told = pin_there d top.0 top.1 valid.no_cycle path port bit first m in
      let here = bits-at d path told.0.0 (reaches-at d top.0 path told.0.0 top.1 told.0.1) in
      (subst (λ bs. Contains bs (record { port = port; bit = bit })) (sym here) told.0.2, told.1 ∙ sym (net_of_is d top.0 top.1 path port bit)),
  λ h.
      let b : Bit = record { port = port; bit = bit } in
      let up = bits-there d path b h.0 in
      let way = at-reaches d path up.0 up.1 in
      let item = pin_from d way.0 way.1 valid.no_cycle path b (up.0, way.2, up.2) in
      Member-contains (flattening d) (Pin path port bit first)
      (subst (λ v. Member (flattening d) (Pin path port bit v)) (sym (h.1 ∙ net_of_is d way.0 way.1 path port bit)) item),
)

pub pins_are_parted : PinsAreParted
pins_are_parted d path port bit y valid has =
    let m = Contains-member (flattening d) (Pin path port bit (Some y)) has in
    let top = has_top d (Pin path port bit (Some y)) m in
    ((named_is_first d top.0 top.1 valid path port bit y m).1, λ x. pin_is_of d path port bit y x m)

pub only_pins_are_there : OnlyPinsAreThere
only_pins_are_there d x item has =
    let found = Member-from_filter (is_at (first_of d x)) (flattening d) item (Contains-member (pins_of d x) item has) in
    let pin = at_pin (first_of d x) item found.1 in
    (pin.0, pin.1, pin.2, pin.3, Member-contains (flattening d) item found.0)
