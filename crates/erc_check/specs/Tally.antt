-- What a check has seen of the items of a design.
use Rattle.std.specs.Prelude.{◌≡◌, ℕ, List, [], ◌∷◌, ◌++◌, map, Bool, true, false, Option, Some, None, if◌then◌else◌}
use Rattle.std.specs.List.{flat_map}
use Rattle.netlist_schema.specs.Design.{Design}
use Rattle.netlist_schema.specs.Types.{Direction}
use Rattle.flat_spec.specs.Types.{Item, NetAt}
use Rattle.erc_spec.specs.Drives.{is_either, is_strong_port}
use Rattle.erc_spec.specs.Findings.{capped, first_nets, is_driven, pin_finding, strong_pins}
use Rattle.erc_check.specs.Firsts.{drive_after, with_note}
use Rattle.erc_check.specs.Front.{IsFront, last_cell}
use Rattle.erc_check.specs.declared.tally.Tally.{Tally}

-- how many of the items are pins that drive the net strongly; nothing where none drives it
abbrev pub drive : Design → List Item → NetAt → Option ℕ
drive d items x = if is_driven d items x then Some (capped (strong_pins d items x)) else None

-- what is noted of the net x once a pin of the occurrence at the path, with that direction, was seen at the net y
abbrev pub drive_by : List ℕ → Option Direction → NetAt → NetAt → Option ℕ → Option ℕ
drive_by path direction y x count =
    if is_strong_port path direction then drive_after y true x count
    else (if is_either direction then drive_after y false x count else count)

-- the cell of the occurrence that was entered last, the first nets among the items with what their pins do to each, and what is found of
-- pins
pub record IsTally (d : Design) (items : List Item) (tally : Tally) : Type 0 where
  pub cell : tally.cell ≡ last_cell None items
  pub firsts : tally.firsts.items ≡ map (with_note (drive d items)) (first_nets items)
  pub pins : tally.pins.items ≡ flat_map (pin_finding d) items

-- these items of the design were seen beside those before
abbrev pub AddsAll : Design → List Item → Tally → Tally → Type 0
AddsAll d items old new = (seen : List Item) → IsFront d (seen ++ items) → IsTally d seen old → IsTally d (seen ++ items) new

-- the first item was seen, and the others are left
abbrev pub AddsFirst : Design → List Item → List Item → Tally → Tally → Type 0
AddsFirst d left rest old new = (item : Item) × (left ≡ item ∷ rest) × AddsAll d (item ∷ []) old new

-- the first item was seen, and the others are left; or none was left
abbrev pub AddsNext : Design → List Item → List Item → Tally → Tally → Bool → Type 0
AddsNext d left rest old new true = AddsFirst d left rest old new
AddsNext d left rest old new false = (left ≡ []) × (new ≡ old)
