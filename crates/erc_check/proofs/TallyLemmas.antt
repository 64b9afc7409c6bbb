-- What was seen, with one item more.
use Rattle.std.proofs.Common.{◌≡◌, ℕ, List, [], ◌∷◌, ◌++◌, map, Bool, true, false, ◌&&◌, ◌||◌, Option, Some, None, cond, refl, sym, ap, subst, ◌∙◌, inl, inr, append-nil, append_assoc, true≢false, arith}
use Rattle.std.specs.Prelude.{nat_lt}
use Rattle.std.specs.List.{AllPairs, Contains, flat_map}
use Rattle.std.proofs.lemmas.Bool.{and_parts, false_from_ne_true, lt-ltb, ltb-true}
use Rattle.std.proofs.lemmas.Grind.{flat_map-append}
use Rattle.std.proofs.lemmas.List.{map-append}
use Rattle.netlist_schema.proofs.Lists.{same_test}
use Rattle.netlist_schema.specs.Design.{Design}
use Rattle.netlist_schema.specs.Types.{CellId, Direction, Property}
use Rattle.flat_spec.specs.ConnectionTest.{same_net}
use Rattle.flat_spec.specs.PathOrder.{NetBefore}
use Rattle.flat_spec.specs.Paths.{at_path}
use Rattle.flat_spec.specs.Types.{Item, NetAt}
use Rattle.flat_spec.specs.declared.item.Item.TheVariants.{Enter, Net, Pin}
use Rattle.flat_spec.proofs.ListLemmas.{Ascends, Ascends-pairs, Member, Member-append_left, Member-contains}
use Rattle.flat_spec.proofs.TestLemmas.{same_net-true}
use Rattle.erc_spec.specs.Drives.{direction_at, is_at, is_open_port, is_strong, is_weak}
use Rattle.erc_spec.specs.Findings.{capped, findings_in, first_net, first_nets, is_driven, net_finding, pin_finding, strong_pins}
use Rattle.erc_spec.specs.declared.finding.Finding.TheVariants.{Many, Open, Undriven}
use Rattle.erc_spec.proofs.MemberLemmas.{any-member}
use Rattle.erc_spec.proofs.PinOrder.{ascends_parts}
use Rattle.erc_check.specs.Firsts.{first_found, net_found, with_note}
use Rattle.erc_check.specs.Front.{direction_in, IsFront}
use Rattle.erc_check.specs.Tally.{AddsAll, drive, drive_by, IsTally}
use Rattle.erc_check.specs.declared.tally.Tally.{Tally}
use Rattle.erc_check.proofs.CountLemmas.{drive_other, drive_pin}
use Rattle.erc_check.proofs.FirstLemmas.{found_of_firsts, not_itself}
use Rattle.erc_check.proofs.FrontLemmas.{direction_is, first_was_seen, firsts-ascend, last_cell-append, shorter}

-- a list around one of its members
split : {A : Type 0} (xs : List A) (x : A) → Member xs x → (front : List A) × (back : List A) × (xs ≡ front ++ x ∷ back)
split [] x m = absurd m
split (y ∷ xs) x m =
    elim m [
      | inl same ↦ ([], xs, ap (λ v. v ∷ xs) same)
      | inr rest ↦ let parts = split xs x rest in (y ∷ parts.0, parts.1, ap (λ v. y ∷ v) parts.2)
    ]

module _ (d : Design) (seen : List Item) where
  more_firsts : (item : Item) → first_nets (seen ++ item ∷ []) ≡ first_nets seen ++ first_net item
  more_firsts item = flat_map-append first_net seen (item ∷ []) ∙ ap (λ v. first_nets seen ++ v) (append-nil (first_net item))

  more_pins : (item : Item) → flat_map (pin_finding d) (seen ++ item ∷ []) ≡ flat_map (pin_finding d) seen ++ pin_finding d item
  more_pins item = flat_map-append (pin_finding d) seen (item ∷ []) ∙ ap (λ v. flat_map (pin_finding d) seen ++ v) (append-nil (pin_finding d item))

  -- an item that is no pin at a net leaves what is noted
  same_notes : (item : Item) → ((x : NetAt) → is_at x item ≡ false) → (nets : List NetAt) → map (with_note (drive d (seen ++ item ∷ []))) nets ≡ map (with_note (drive d seen)) nets
  same_notes item none [] = refl
  same_notes item none (x ∷ nets) = λ i. with_note (λ v. drive_other d seen item v (none v) i) x ∷ same_notes item none nets i

  -- a pin that drives a net which is not yet seen would come too early
  at_pin : (x : NetAt) (item : Item) → is_at x item ≡ true → (path : List ℕ) × (port : ℕ) × (bit : ℕ) × (item ≡ Pin path port bit (Some x))
  at_pin x (Enter path cell properties) h = absurd (true≢false (sym h))
  at_pin x (Net path net first) h = absurd (true≢false (sym h))
  at_pin x (Pin path port bit None) h = absurd (true≢false (sym h))
  at_pin x (Pin path port bit (Some y)) h = (path, port, bit, ap (λ v. Pin path port bit (Some v)) (same_net-true y x h))

  pub not_yet_driven : (path : List ℕ) (net : ℕ) (first : NetAt) → IsFront d (seen ++ Net path net first ∷ []) → same_net (at_path path net) first ≡ true → drive d seen first ≡ None
  not_yet_driven path net first front own =
      ap (λ b. cond b (Some (capped (strong_pins d seen first))) None)
      (false_from_ne_true (is_driven d seen first)
      (λ driven.
      let found = any-member (λ i. (is_strong d i || is_weak d i) && is_at first i) seen driven in
      let pin = at_pin first found.0 (and_parts (is_strong d found.0 || is_weak d found.0) (is_at first found.0) found.2).1 in
      let around = split seen found.0 found.1 in
      let item = Net path net first in
      let whole : seen ≡ around.0 ++ Pin pin.0 pin.1 pin.2 (Some first) ∷ around.1 = around.2 ∙ ap (λ v. around.0 ++ v ∷ around.1) pin.3 in
      let early : IsFront d (around.0 ++ Pin pin.0 pin.1 pin.2 (Some first) ∷ []) =
      shorter d (around.0 ++ Pin pin.0 pin.1 pin.2 (Some first) ∷ []) around.1
      (subst (IsFront d) (whole ∙ sym (append_assoc around.0 (Pin pin.0 pin.1 pin.2 (Some first) ∷ []) around.1)) (shorter d seen (item ∷ []) front))
      in
      let before = first_was_seen d around.0 pin.0 pin.1 pin.2 first early in
      let m : Member (first_nets seen) first =
      subst (λ v. Member (first_nets v) first) (sym whole)
      (subst (λ v. Member v first) (sym (flat_map-append first_net around.0 (Pin pin.0 pin.1 pin.2 (Some first) ∷ around.1)))
      (Member-append_left (first_nets around.0) (first_nets around.1) first before))
      in
      let order = ascends_parts NetBefore (first_nets seen) (first_net item) (subst (Ascends NetBefore) (more_firsts item) (firsts-ascend d seen item front)) in
      not_itself first first (order.2 first first m (subst (λ b. Member (cond b (first ∷ []) []) first) (sym own) (inl refl))) refl))

-- an occurrence
pub entered : (d : Design) (old new : Tally) (item : Item) (path : List ℕ) (cell : CellId) (properties : List Property)
    → item ≡ Enter path cell properties → new.cell ≡ Some cell → new.firsts.items ≡ old.firsts.items → new.pins.items ≡ old.pins.items
    → AddsAll d (item ∷ []) old new
entered d old new item path cell properties is cell_is firsts pins = λ seen front t.
    let enter = Enter path cell properties in
    subst (λ i. IsTally d (seen ++ i ∷ []) new) (sym is) (record {
      cell = cell_is ∙ sym (last_cell-append None seen (enter ∷ []));
      firsts = firsts ∙ (t.firsts ∙ (sym (same_notes d seen enter (λ x. refl) (first_nets seen)) ∙ ap (map (with_note (drive d (seen ++ enter ∷ [])))) (sym (more_firsts d seen enter ∙ append-nil (first_nets seen)))));
      pins = pins ∙ (t.pins ∙ sym (more_pins d seen enter ∙ append-nil (flat_map (pin_finding d) seen)));
    })

-- a net
pub netted : (d : Design) (old new : Tally) (item : Item) (path : List ℕ) (net : ℕ) (first : NetAt)
    → item ≡ Net path net first → new.cell ≡ old.cell → new.pins.items ≡ old.pins.items → new.firsts.items ≡ old.firsts.items ++ map (with_note (λ x. None)) (first_net (Net path net first))
    → AddsAll d (item ∷ []) old new
netted d old new item path net first is cell pins firsts = λ seen front t.
    let it = Net path net first in
    let f = with_note (drive d (seen ++ it ∷ [])) in
    let it_front : IsFront d (seen ++ it ∷ []) = subst (λ i. IsFront d (seen ++ i ∷ [])) is front in
    let by : (b : Bool) → same_net (at_path path net) first ≡ b → map (with_note (λ x. None)) (cond b (first ∷ []) []) ≡ map f (cond b (first ∷ []) []) = λ b.
    elim b as (λ v. same_net (at_path path net) first ≡ v → map (with_note (λ x. None)) (cond v (first ∷ []) []) ≡ map f (cond v (first ∷ []) [])) [
      | true ↦ λ own. ap (λ o. record { at = first; drive = o } ∷ []) (sym (drive_other d seen it first refl ∙ not_yet_driven d seen path net first it_front own))
      | false ↦ λ own. refl
    ]
    in
    subst (λ i. IsTally d (seen ++ i ∷ []) new) (sym is) (record {
      cell = cell ∙ (t.cell ∙ sym (last_cell-append None seen (it ∷ [])));
      firsts =
          firsts
          ∙ (ap (λ v. v ++ map (with_note (λ x. None)) (first_net it)) (t.firsts ∙ sym (same_notes d seen it (λ x. refl) (first_nets seen)))
          ∙ (ap (λ v. map f (first_nets seen) ++ v) (by (same_net (at_path path net) first) refl)
          ∙ (sym (map-append f (first_nets seen) (first_net it)) ∙ ap (map f) (sym (more_firsts d seen it)))));
      pins = pins ∙ (t.pins ∙ sym (more_pins d seen it ∙ append-nil (flat_map (pin_finding d) seen)));
    })

-- a pin at a net
pub joined_pin : (d : Design) (old new : Tally) (item : Item) (path : List ℕ) (port bit : ℕ) (y : NetAt) (direction : Option Direction)
    → item ≡ Pin path port bit (Some y) → direction ≡ direction_in d old.cell port → new.cell ≡ old.cell → new.pins.items ≡ old.pins.items
    → ((nets : List NetAt) (drives : NetAt → Option ℕ) → AllPairs NetBefore nets → Contains nets y → old.firsts.items ≡ map (with_note drives) nets
    → new.firsts.items ≡ map (with_note (λ x. drive_by path direction y x (drives x))) nets)
    → AddsAll d (item ∷ []) old new
joined_pin d old new item path port bit y direction is told cell pins firsts = λ seen front t.
    let pin = Pin path port bit (Some y) in
    let it_front : IsFront d (seen ++ pin ∷ []) = subst (λ i. IsFront d (seen ++ i ∷ [])) is front in
    let nets = first_nets seen in
    let in_order : AllPairs NetBefore nets = Ascends-pairs NetBefore nets (subst (Ascends NetBefore) (more_firsts d seen pin ∙ append-nil nets) (firsts-ascend d seen pin it_front)) in
    let there : Contains nets y = Member-contains nets y (first_was_seen d seen path port bit y it_front) in
    let direction_told : direction ≡ direction_at d path port = told ∙ (ap (λ c. direction_in d c port) t.cell ∙ direction_is d seen path port bit (Some y) it_front) in
    subst (λ i. IsTally d (seen ++ i ∷ []) new) (sym is) (record {
      cell = cell ∙ (t.cell ∙ sym (last_cell-append None seen (pin ∷ [])));
      firsts =
          firsts nets (drive d seen) in_order there t.firsts
          ∙ ((λ i. map (with_note (λ x. (ap (λ v. drive_by path v y x (drive d seen x)) direction_told ∙ sym (drive_pin d seen path port bit y x)) i)) nets)
          ∙ ap (map (with_note (drive d (seen ++ pin ∷ [])))) (sym (more_firsts d seen pin ∙ append-nil nets)));
      pins = pins ∙ (t.pins ∙ sym (more_pins d seen pin ∙ append-nil (flat_map (pin_finding d) seen)));
    })

-- a pin that no net joins
pub bare_pin : (d : Design) (old new : Tally) (item : Item) (path : List ℕ) (port bit : ℕ) (direction : Option Direction)
    → item ≡ Pin path port bit None → direction ≡ direction_in d old.cell port → new.cell ≡ old.cell → new.firsts.items ≡ old.firsts.items
    → new.pins.items ≡ old.pins.items ++ cond (is_open_port path direction) (Open path port bit ∷ []) []
    → AddsAll d (item ∷ []) old new
bare_pin d old new item path port bit direction is told cell firsts pins = λ seen front t.
    let pin = Pin path port bit None in
    let it_front : IsFront d (seen ++ pin ∷ []) = subst (λ i. IsFront d (seen ++ i ∷ [])) is front in
    let direction_told : direction ≡ direction_at d path port = told ∙ (ap (λ c. direction_in d c port) t.cell ∙ direction_is d seen path port bit None it_front) in
    subst (λ i. IsTally d (seen ++ i ∷ []) new) (sym is) (record {
      cell = cell ∙ (t.cell ∙ sym (last_cell-append None seen (pin ∷ [])));
      firsts = firsts ∙ (t.firsts ∙ (sym (same_notes d seen pin (λ x. refl) (first_nets seen)) ∙ ap (map (with_note (drive d (seen ++ pin ∷ [])))) (sym (more_firsts d seen pin ∙ append-nil (first_nets seen)))));
      pins =
          pins
          ∙ (ap (λ v. old.pins.items ++ cond (is_open_port path v) (Open path port bit ∷ []) []) direction_told
          ∙ (ap (λ v. v ++ pin_finding d pin) t.pins ∙ sym (more_pins d seen pin)));
    })

capped_several : (n : ℕ) → nat_lt 1 (capped n) ≡ nat_lt 1 n
capped_several n =
    same_test (nat_lt 1 (capped n)) (nat_lt 1 n)
    (λ h. let less = ltb-true 1 (capped n) h in lt-ltb 1 n (omega (arith, less)))
    (λ h. let less = ltb-true 1 n h in lt-ltb 1 (capped n) (omega (arith, less)))

-- what is found of the nets and pins that were seen
pub all_found : (d : Design) (items : List Item) (tally : Tally) → IsTally d items tally → flat_map first_found tally.firsts.items ++ tally.pins.items ≡ findings_in d items
all_found d items tally t =
    λ i. (ap (flat_map first_found) t.firsts ∙ (found_of_firsts (drive d items) (first_nets items) ∙ of_nets (first_nets items))) i ++ t.pins i
  where
    of_net : (x : NetAt) → net_found (drive d items x) x ≡ net_finding d items x
    of_net x = by (is_driven d items x)
      where
        by : (b : Bool) → net_found (cond b (Some (capped (strong_pins d items x))) None) x
            ≡ cond b (cond (nat_lt 1 (strong_pins d items x)) (Many x (capped (strong_pins d items x)) ∷ []) []) (Undriven x ∷ [])
        by true = ap (λ b. cond b (Many x (capped (strong_pins d items x)) ∷ []) []) (capped_several (strong_pins d items x))
        by false = refl

    of_nets : (nets : List NetAt) → flat_map (λ x. net_found (drive d items x) x) nets ≡ flat_map (net_finding d items) nets
    of_nets [] = refl
    of_nets (x ∷ nets) = λ i. of_net x i ++ of_nets nets i
