-- The row of a pin.
use Rattle.std.specs.Prelude.{ℕ, List, [], ◌∷◌, ◌++◌, Option, Some, None}
use Rattle.std.specs.Fmt.{decimal}
use Rattle.std.specs.Option.{option_map}
use Rattle.netlist_schema.specs.Design.{Design}
use Rattle.flat_items.specs.Lent.{net_of}
use Rattle.flat_items.specs.Texts.{net_in, port_in}
use Rattle.flat_items.specs.declared.texts.ItemText.{ItemText}
use Rattle.flat_items.specs.declared.texts.ItemText.TheVariants.{Enter, Net, Pin}
use Rattle.flat_items.specs.declared.texts.NetText.{NetText}
use Rattle.flat_csv_spec.specs.Fields.{row, separated}
use Rattle.flat_csv_spec.specs.PinTable.{pin_fields}
use Rattle.csv_report.specs.declared.pin.PinRef.{PinRef}

-- its fields, as a row
abbrev pub row_of_pin : Design → PinRef → List ℕ
row_of_pin d pin = row (pin_fields d pin.path.now pin.port pin.bit (option_map net_of pin.first))

-- fields as they are, with a comma between each two, and a line feed at the end
abbrev pub plain_row : List (List ℕ) → List ℕ
plain_row fields = separated fields ++ 10 ∷ []

-- the fields of a representative by the text of its path, both empty where there is none
abbrev pub first_fields : Design → Option NetText → List (List ℕ)
first_fields d None = [] ∷ [] ∷ []
first_fields d (Some first) = first.at.text.now ∷ net_in d first.at.cell first.net ∷ []

-- the fields of a pin by the texts of its paths, as they are
abbrev pub row_of_text : Design → ItemText → List ℕ
row_of_text d (Enter at properties) = []
row_of_text d (Net at net first) = []
row_of_text d (Pin at port bit first) = plain_row (at.text.now ∷ port_in d at.cell port ∷ decimal bit ∷ first_fields d first)
