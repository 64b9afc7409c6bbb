-- The flattening with cells by their names.
use Rattle.std.specs.Prelude.{List, map}
use Rattle.netlist_schema.specs.Design.{Design}
use Rattle.edit_rules_spec.specs.Objects.{cell_name_at}
use Rattle.flat_spec.specs.Flattening.{flattening}
use Rattle.flat_spec.specs.Types.{Item}
use Rattle.flat_spec.specs.declared.item.Item.TheVariants.{Enter, Net, Pin}
use Rattle.uniquify_spec.specs.Erased.{Erased, entered, other}

-- an occurrence with the name of its cell in place of the id; another item as it is
abbrev pub named : Design → Item → Erased
named d (Enter path cell properties) = entered path (cell_name_at d cell) properties
named d (Net path net first) = other (Net path net first)
named d (Pin path port bit first) = other (Pin path port bit first)

abbrev pub named_flattening : Design → List Erased
named_flattening d = map (named d) (flattening d)
