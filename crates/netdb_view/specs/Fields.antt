-- The fields of an item, each as text.
use Rattle.std.specs.Prelude.{◌≡◌, ℕ, List, ◌++◌, Bool, true, false, Option, Some, None, Result, Ok, Err, codes}
use Rattle.std.specs.Fmt.{decimal}
use Rattle.std.specs.Option.{option_and_then, option_map}
use Rattle.netlist_schema.specs.Design.{Design}
use Rattle.netlist_schema.specs.declared.cell.Direction.{Direction}
use Rattle.netlist_schema.specs.declared.cell.Direction.TheVariants.{Input, Output, Inout}
use Rattle.netlist_pages.specs.declared.memory.NoMemory.{NoMemory}
use Rattle.flat_spec.specs.Paths.{at_path, port_at}
use Rattle.flat_spec.specs.Types.{Item, NetAt}
use Rattle.flat_spec.specs.declared.item.Item.TheVariants.{Enter, Net, Pin}
use Rattle.flat_lines_spec.specs.Lines.{cell_text, lib_text, net_text, path_text, port_text}
use Rattle.occ_walk.specs.At.{path_of}
use Rattle.netdb_view.specs.declared.fields.Field.{Field}
use Rattle.netdb_view.specs.declared.fields.Field.TheVariants as field

-- what an item is
abbrev pub kind_text : Item → List ℕ
kind_text (Enter path cell properties) = codes "inst"
kind_text (Net path net first) = codes "net"
kind_text (Pin path port bit first) = codes "pin"

-- which way a port goes
abbrev pub way_text : Direction → List ℕ
way_text Input = codes "input"
way_text Output = codes "output"
way_text Inout = codes "inout"

-- the direction of a port of the occurrence at the path, where it has one
abbrev pub way_at : Design → List ℕ → ℕ → Option Direction
way_at d path port = option_and_then (λ p. p.direction) (port_at d path port)

-- the first net that is connected with the item's, where there is one
abbrev pub first_of : Item → Option NetAt
first_of (Enter path cell properties) = None
first_of (Net path net first) = Some first
first_of (Pin path port bit first) = first

-- the field of an item, where it has it
abbrev pub field_text : Design → Item → Field → Option (List ℕ)
field_text d item field.Kind = Some (kind_text item)
field_text d item field.Path = Some (path_text d (path_of item))
field_text d item field.FirstPath = option_map (λ x. path_text d x.path) (first_of item)
field_text d item field.FirstNet = option_map (net_text d) (first_of item)
field_text d (Enter path cell properties) field.Library = Some (lib_text d cell)
field_text d (Enter path cell properties) field.Cell = Some (cell_text d cell)
field_text d (Net path net first) field.Net = Some (net_text d (at_path path net))
field_text d (Pin path port bit first) field.Port = Some (port_text d path port)
field_text d (Pin path port bit first) field.Bit = Some (decimal bit)
field_text d (Pin path port bit first) field.Direction = option_map way_text (way_at d path port)
field_text d item other = None

-- a text that is there was appended, or there was no memory for it, and nothing was; there is none, and nothing was
abbrev pub Adds : Option (List ℕ) → List ℕ → List ℕ → Result Bool NoMemory → Type 0
Adds (Some text) old new (Ok true) = new ≡ old ++ text
Adds (Some text) old new (Err error) = new ≡ old
Adds None old new (Ok false) = new ≡ old
Adds found old new other = ⊥
