-- What holds of each item of a flattening by its type: the steps of its paths fit, and its properties are typed.
use Rattle.std.specs.Prelude.{IfSome}
use Rattle.std.specs.List.{All}
use Rattle.netlist_schema.specs.Typed.{IsTypedProperty}
use Rattle.flat_spec.specs.Steps.{IsTypedPath}
use Rattle.flat_spec.specs.declared.item.Item.{Item}
use Rattle.flat_spec.specs.declared.item.Item.TheVariants.{Enter, Net, Pin}
use Rattle.flat_spec.specs.declared.item.NetAt.{NetAt}

-- the steps of the net's path fit
abbrev pub IsTypedNetAt : NetAt → Type 0
IsTypedNetAt x = IsTypedPath x.path

-- the steps of the item's paths fit, and the properties of an occurrence are typed
abbrev pub IsTypedItem : Item → Type 0
IsTypedItem (Enter path cell properties) = IsTypedPath path × All IsTypedProperty properties
IsTypedItem (Net path net first) = IsTypedPath path × IsTypedNetAt first
IsTypedItem (Pin path port bit first) = IsTypedPath path × IfSome first IsTypedNetAt
