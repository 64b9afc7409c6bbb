-- What an occurrence has still to give of its own items.
use Rattle.std.specs.Prelude.{◌≡◌, List, [], ◌∷◌, ◌++◌, Option, Some, None, Bool, true, false, drop, map}
use Rattle.std.specs.Option.{option_map_or}
use Rattle.netlist_schema.specs.Design.{Design, cell_at}
use Rattle.flat_spec.specs.Effective.{effective}
use Rattle.flat_spec.specs.Flattening.{items_of, net_item, pin_item}
use Rattle.flat_spec.specs.Occurrences.{Occurrence, own_nets}
use Rattle.flat_spec.specs.Pins.{shown_bits}
use Rattle.flat_spec.specs.Types.{Item}
use Rattle.flat_spec.specs.declared.item.Item.TheVariants.{Enter}
use Rattle.flat_items.specs.Lent.{item_of}
use Rattle.flat_items.specs.Stand.{IsStage, top_of}
use Rattle.flat_items.specs.declared.lent.ItemRef.{ItemRef}
use Rattle.flat_items.specs.declared.place.Stage.{Stage}
use Rattle.flat_items.specs.declared.place.Stage.TheVariants.{Whole, Nets, Pins, Done}

-- the occurrence itself
abbrev pub enter_item : Design → Occurrence → Item
enter_item d o = Enter o.path o.cell (effective d (top_of d) o.path)

-- the pins that it shows
abbrev pub pins_of : Design → Occurrence → List Item
pins_of d o = map (pin_item d (top_of d).cell o.path) (option_map_or (shown_bits o.path) (cell_at d o.cell) [])

-- all of its items, or its nets from one on and then its pins, or its pins from one on, or nothing
abbrev pub own_left : Design → Occurrence → Stage → List Item
own_left d o Whole = items_of d (top_of d) o
own_left d o (Nets n) = map (net_item d (top_of d).cell) (drop n (own_nets d o)) ++ pins_of d o
own_left d o (Pins p) = drop p.number (pins_of d o)
own_left d o Done = []

-- none is left
abbrev pub is_over : Stage → Bool
is_over Whole = false
is_over (Nets n) = false
is_over (Pins p) = false
is_over Done = true

-- none is left, or this is the first of them
abbrev pub IsAhead : Design → Occurrence → Stage → Option ItemRef → Type 0
IsAhead d o stage None = is_over stage ≡ true
IsAhead d o stage (Some item) = (is_over stage ≡ false) × (own_left d o stage ≡ item_of item ∷ drop 1 (own_left d o stage))

-- these are left
abbrev pub GoesOn : Design → Occurrence → List Item → Stage → Type 0
GoesOn d o items stage = (own_left d o stage ≡ items) × IsStage d o stage
