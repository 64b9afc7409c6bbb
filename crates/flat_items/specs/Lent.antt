-- What lent items are.
use Rattle.std.specs.Prelude.{List}
use Rattle.std.specs.Option.{option_map}
use Rattle.netlist_schema.specs.Types.{Property}
use Rattle.flat_spec.specs.Effective.{merged}
use Rattle.flat_spec.specs.Types.{Item, NetAt}
use Rattle.flat_spec.specs.declared.item.Item.TheVariants as items
use Rattle.flat_items.specs.Placed.{properties_at}
use Rattle.flat_items.specs.declared.lent.ItemRef.{ItemRef}
use Rattle.flat_items.specs.declared.lent.ItemRef.TheVariants.{Enter, Net, Pin}
use Rattle.flat_items.specs.declared.lent.NetRef.{NetRef}
use Rattle.flat_items.specs.declared.lent.PropertiesRef.{PropertiesRef}

abbrev pub net_of : NetRef → NetAt
net_of net = record { path = net.path.now; net = net.net }

abbrev pub properties_of : PropertiesRef → List Property
properties_of properties = merged properties.base.now (properties_at properties.notes.now properties.places.now)

abbrev pub item_of : ItemRef → Item
item_of (Enter path cell properties) = items.Enter path.now cell (properties_of properties)
item_of (Net path net first) = items.Net path.now net (net_of first)
item_of (Pin path port bit first) = items.Pin path.now port bit (option_map net_of first)
