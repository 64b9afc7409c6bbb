-- Counts with one item more.
use Rattle.std.specs.Prelude.{◌+◌, length}
use Rattle.flat_spec.specs.Types.{Item}
use Rattle.flat_spec.specs.declared.item.Item.TheVariants.{Enter, Net, Pin}
use Rattle.gen_spec.specs.declared.summary.Counts.{Counts}

abbrev pub with_item : Counts → Item → Counts
with_item c (Enter path cell properties) = record c { instances = c.instances + 1; properties = c.properties + length properties }
with_item c (Net path net first) = record c { nets = c.nets + 1 }
with_item c (Pin path port bit first) = record c { pins = c.pins + 1 }
