-- The line of an item by the texts of its paths.
use Rattle.std.proofs.Common.{◌≡◌, ◌∙◌, List, [], ◌∷◌, ◌++◌, Option, Some, None, refl, ap, map}
use Rattle.std.specs.Prelude.{codes}
use Rattle.std.specs.Fmt.{decimal}
use Rattle.std.specs.Option.{option_map_or}
use Rattle.netlist_schema.specs.Design.{Design}
use Rattle.netlist_schema.specs.Types.{CellId, Property}
use Rattle.edif_spec.specs.PropertyText.{property_text}
use Rattle.flat_spec.specs.Types.{Item, NetAt}
use Rattle.flat_spec.specs.Paths.{at_path}
use Rattle.flat_spec.specs.declared.item.Item.TheVariants as items
use Rattle.flat_lines_spec.specs.Lines.{cell_text, item_line, item_words, lib_text, net_text, net_words, path_text, port_text, spaced}
use Rattle.flat_items.specs.Lent.{properties_of}
use Rattle.flat_items.specs.Texts.{IsFirstText, IsItemText, IsNetText, net_in, port_in}
use Rattle.flat_items.specs.declared.texts.ItemText.{ItemText}
use Rattle.flat_items.specs.declared.texts.ItemText.TheVariants.{Enter, Net, Pin}
use Rattle.flat_items.specs.declared.texts.NetText.{NetText}
use Rattle.flat_items.proofs.TextLemmas.{net_named_at, port_named_at}
use Rattle.flat_report.specs.Parts.{first_words, line_of, words_of}

first_is : (d : Design) (net : NetAt) (first : NetText) → IsNetText d net first → first_words d first ≡ net_words d net
first_is d net first is =
    ap (λ text. text ∷ net_in d first.at.cell first.net ∷ []) is.at.text_is
    ∙ ap (λ name. path_text d net.path ∷ name ∷ []) (ap (net_in d first.at.cell) is.net_is ∙ net_named_at d net.path net.net first.at.cell is.at.cell_is)

joined_is : (d : Design) (o : Option NetAt) (t : Option NetText) → IsFirstText d o t
    → option_map_or (first_words d) t (codes "-" ∷ []) ≡ option_map_or (net_words d) o (codes "-" ∷ [])
joined_is d None None is = refl
joined_is d None (Some first) is = absurd is
joined_is d (Some net) None is = absurd is
joined_is d (Some net) (Some first) is = first_is d net first is

words_are : (d : Design) (item : Item) (t : ItemText) → IsItemText d item t → words_of d t ≡ item_words d item
words_are d (items.Enter path cell properties) (Enter at shown) is =
    ap (λ text. codes "inst" ∷ text ∷ lib_text d at.cell ∷ cell_text d at.cell ∷ map property_text (properties_of shown)) is.0.text_is
    ∙ ap (λ (c : CellId). codes "inst" ∷ path_text d path ∷ lib_text d c ∷ cell_text d c ∷ map property_text (properties_of shown)) is.1
    ∙ ap (λ (ps : List Property). codes "inst" ∷ path_text d path ∷ lib_text d cell ∷ cell_text d cell ∷ map property_text ps) is.2
words_are d (items.Enter path cell properties) (Net at number named) is = absurd is
words_are d (items.Enter path cell properties) (Pin at place member named) is = absurd is
words_are d (items.Net path net first) (Enter at shown) is = absurd is
words_are d (items.Net path net first) (Net at number named) is =
    ap (λ text. codes "net" ∷ text ∷ net_in d at.cell number ∷ first_words d named) is.0.text_is
    ∙ ap (λ name. codes "net" ∷ path_text d path ∷ name ∷ first_words d named) (ap (net_in d at.cell) is.1 ∙ net_named_at d path net at.cell is.0.cell_is)
    ∙ ap (λ words. codes "net" ∷ path_text d path ∷ net_text d (at_path path net) ∷ words) (first_is d first named is.2)
words_are d (items.Net path net first) (Pin at place member named) is = absurd is
words_are d (items.Pin path port bit first) (Enter at shown) is = absurd is
words_are d (items.Pin path port bit first) (Net at number named) is = absurd is
words_are d (items.Pin path port bit first) (Pin at place member named) is =
    ap (λ text. codes "pin" ∷ text ∷ port_in d at.cell place ∷ decimal member ∷ option_map_or (first_words d) named (codes "-" ∷ [])) is.0.text_is
    ∙ ap (λ name. codes "pin" ∷ path_text d path ∷ name ∷ decimal member ∷ option_map_or (first_words d) named (codes "-" ∷ []))
    (ap (port_in d at.cell) is.1 ∙ port_named_at d path port at.cell is.0.cell_is)
    ∙ ap (λ b. codes "pin" ∷ path_text d path ∷ port_text d path port ∷ decimal b ∷ option_map_or (first_words d) named (codes "-" ∷ [])) is.2
    ∙ ap (λ words. codes "pin" ∷ path_text d path ∷ port_text d path port ∷ decimal bit ∷ words) (joined_is d first named is.3)

pub line_is : (d : Design) (item : Item) (t : ItemText) → IsItemText d item t → line_of d t ≡ item_line d item
line_is d item t is = ap (λ words. spaced words ++ 10 ∷ []) (words_are d item t is)
