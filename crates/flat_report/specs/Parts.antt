-- What a line is made of: words behind blanks.
use Rattle.std.specs.Prelude.{ℕ, List, [], ◌∷◌, ◌++◌, codes, map}
use Rattle.std.specs.Fmt.{decimal}
use Rattle.std.specs.List.{flat_map}
use Rattle.std.specs.Option.{option_map_or}
use Rattle.netlist_schema.specs.Design.{Design}
use Rattle.edif_spec.specs.PropertyText.{property_text}
use Rattle.flat_lines_spec.specs.Lines.{cell_text, lib_text, spaced}
use Rattle.flat_items.specs.Lent.{properties_of}
use Rattle.flat_items.specs.Texts.{net_in, port_in}
use Rattle.flat_items.specs.declared.texts.ItemText.{ItemText}
use Rattle.flat_items.specs.declared.texts.ItemText.TheVariants.{Enter, Net, Pin}
use Rattle.flat_items.specs.declared.texts.NetText.{NetText}

-- each word behind a blank
abbrev pub behind_blanks : List (List ℕ) → List ℕ
behind_blanks words = flat_map (λ word. codes " " ++ word) words

-- the words of an item by the texts of its paths
abbrev pub first_words : Design → NetText → List (List ℕ)
first_words d first = first.at.text.now ∷ net_in d first.at.cell first.net ∷ []

abbrev pub words_of : Design → ItemText → List (List ℕ)
words_of d (Enter at properties) =
    codes "inst" ∷ at.text.now ∷ lib_text d at.cell ∷ cell_text d at.cell ∷ map property_text (properties_of properties)
words_of d (Net at net first) = codes "net" ∷ at.text.now ∷ net_in d at.cell net ∷ first_words d first
words_of d (Pin at port bit first) =
    codes "pin" ∷ at.text.now ∷ port_in d at.cell port ∷ decimal bit ∷ option_map_or (first_words d) first (codes "-" ∷ [])

-- its line
abbrev pub line_of : Design → ItemText → List ℕ
line_of d item = spaced (words_of d item) ++ 10 ∷ []
