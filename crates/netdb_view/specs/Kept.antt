-- The item that is kept in parts.
use Rattle.std.specs.Prelude.{ℕ, List}
use Rattle.std.specs.Option.{option_map}
use Rattle.flat_spec.specs.Types.{Item}
use Rattle.flat_spec.specs.declared.item.Item.TheVariants as items
use Rattle.netdb_view.specs.declared.kept.Part.{Part}
use Rattle.netdb_view.specs.declared.kept.Part.TheVariants.{Enter, Net, Pin}

-- the item that these parts say of the occurrence at a path; the first net that is connected with it is of the occurrence at the other path
abbrev pub kept_item : List ℕ → List ℕ → Part → Item
kept_item path first (Enter cell properties) = items.Enter path cell properties
kept_item path first (Net net number) = items.Net path net (record { path = first; net = number })
kept_item path first (Pin port bit number) = items.Pin path port bit (option_map (λ n. record { path = first; net = n }) number)
