-- The types of a flattening under short names, for definitions of other crates.
use Rattle.flat_spec.specs.declared.item.Item as item_type
use Rattle.flat_spec.specs.declared.item.NetAt as net_at_type

-- one item of a flattening
abbrev pub Item : Type 0
Item = item_type.Item

-- a net of an occurrence
abbrev pub NetAt : Type 0
NetAt = net_at_type.NetAt
