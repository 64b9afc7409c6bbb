-- The row of an item by the texts of its paths.
use Rattle.std.proofs.Common.{◌≡◌, ◌∙◌, [], ◌∷◌, Option, Some, None, refl, sym, ap}
use Rattle.std.specs.Fmt.{decimal}
use Rattle.netlist_schema.specs.Design.{Design}
use Rattle.netlist_schema.specs.Valid.{IsValid}
use Rattle.flat_spec.specs.Types.{Item, NetAt}
use Rattle.flat_spec.specs.declared.item.Item.TheVariants as items
use Rattle.flat_lines_spec.specs.Lines.{path_text, port_text}
use Rattle.flat_csv_spec.specs.PinTable.{net_fields, pin_fields, pin_row}
use Rattle.flat_items.specs.Texts.{IsFirstText, IsItemText, net_in, port_in}
use Rattle.flat_items.specs.declared.texts.ItemText.{ItemText}
use Rattle.flat_items.specs.declared.texts.ItemText.TheVariants.{Enter, Net, Pin}
use Rattle.flat_items.specs.declared.texts.NetText.{NetText}
use Rattle.flat_items.proofs.TextLemmas.{net_named_at, port_named_at}
use Rattle.csv_report.specs.Parts.{first_fields, plain_row, row_of_text}
use Rattle.csv_report.proofs.PlainLemmas.{decimal_is_plain, in_no_quotes, net_is_plain, path_is_plain, port_is_plain}

fields_are : (d : Design) (o : Option NetAt) (t : Option NetText) → IsFirstText d o t → first_fields d t ≡ net_fields d o
fields_are d None None is = refl
fields_are d None (Some first) is = absurd is
fields_are d (Some net) None is = absurd is
fields_are d (Some net) (Some first) is =
    ap (λ text. text ∷ net_in d first.at.cell first.net ∷ []) is.at.text_is
    ∙ ap (λ name. path_text d net.path ∷ name ∷ []) (ap (net_in d first.at.cell) is.net_is ∙ net_named_at d net.path net.net first.at.cell is.at.cell_is)

pub row_is : (d : Design) (item : Item) (t : ItemText) → IsValid d → IsItemText d item t → row_of_text d t ≡ pin_row d item
row_is d (items.Enter path cell properties) (Enter at shown) valid is = refl
row_is d (items.Enter path cell properties) (Net at number named) valid is = absurd is
row_is d (items.Enter path cell properties) (Pin at place member named) valid is = absurd is
row_is d (items.Net path net first) (Enter at shown) valid is = absurd is
row_is d (items.Net path net first) (Net at number named) valid is = refl
row_is d (items.Net path net first) (Pin at place member named) valid is = absurd is
row_is d (items.Pin path port bit first) (Enter at shown) valid is = absurd is
row_is d (items.Pin path port bit first) (Net at number named) valid is = absurd is
row_is d (items.Pin path port bit first) (Pin at place member named) valid is =
    ap (λ text. plain_row (text ∷ port_in d at.cell place ∷ decimal member ∷ first_fields d named)) is.0.text_is
    ∙ ap (λ name. plain_row (path_text d path ∷ name ∷ decimal member ∷ first_fields d named)) (ap (port_in d at.cell) is.1 ∙ port_named_at d path port at.cell is.0.cell_is)
    ∙ ap (λ b. plain_row (path_text d path ∷ port_text d path port ∷ decimal b ∷ first_fields d named)) is.2
    ∙ ap (λ fields. plain_row (path_text d path ∷ port_text d path port ∷ decimal bit ∷ fields)) (fields_are d first named is.3)
    ∙ sym (in_no_quotes (pin_fields d path port bit first) (path_is_plain d path valid, (port_is_plain d path port valid, (decimal_is_plain bit, net_is_plain d first valid))))
