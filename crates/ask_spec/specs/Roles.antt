-- Which of the pins of a net drive it, and which it loads.
use Rattle.std.specs.Prelude.{List, Bool, ◌||◌, not, true, filter}
use Rattle.netlist_schema.specs.Design.{Design}
use Rattle.flat_spec.specs.Types.{Item, NetAt}
use Rattle.erc_spec.specs.Drives.{is_strong, is_weak}
use Rattle.ask_spec.specs.Nets.{pins_of}
use Rattle.ask_spec.specs.declared.role.Role.{Role}
use Rattle.ask_spec.specs.declared.role.Role.TheVariants.{Any, Driver, Load}

-- An output of a leaf and an input of the top drive the net, and so does each pin that leads both ways or whose direction is not told.
abbrev pub is_driver : Design → Item → Bool
is_driver d item = is_strong d item || is_weak d item

-- An input of a leaf and an output of the top load it, and those others too.
abbrev pub is_load : Design → Item → Bool
is_load d item = not (is_strong d item)

abbrev pub drivers : Design → NetAt → List Item
drivers d x = filter (is_driver d) (pins_of d x)

abbrev pub loads : Design → NetAt → List Item
loads d x = filter (is_load d) (pins_of d x)

-- the pin stands so at its net
abbrev pub stands_as : Role → Design → Item → Bool
stands_as Any d item = true
stands_as Driver d item = is_driver d item
stands_as Load d item = is_load d item

-- the pins of the class of the net that stand so at it
abbrev pub pins_as : Role → Design → NetAt → List Item
pins_as Any d x = pins_of d x
pins_as Driver d x = drivers d x
pins_as Load d x = loads d x
