use Rattle.std.proofs.Common.{ap, ◌∙◌, ◌/◌}
use Rattle.std.specs.Ordering.{nat_cmp}
use Rattle.std.specs.FinMap.{find, get}
use Rattle.ver_table.specs.Pages.{pages_of, sheet_at}
use Rattle.ver_table.proofs.Sheets.{sheet_in_order}
use Rattle.ver_table.proofs.Values.{get_of}
use Rattle.ver_table.proofs.table.Table.get.Goals as goal

pub item_at-requires : goal.item_at-requires
item_at-requires g c =
    let inv = c.self.invariant in
    let on_page = c.entries_of.ensures ∙ ap (sheet_at (pages_of c.self.inside.pages)) c.page_of.ensures in
    rw on_page (sheet_in_order g.row.P inv.some (c.args.slot / g.row.P) (pages_of c.self.inside.pages) inv.sheets)

pub returns : goal.returns
returns g c =
    let inv = c.self.invariant in
    let on_page = c.entries_of.ensures ∙ ap (sheet_at (pages_of c.self.inside.pages)) c.page_of.ensures in
    c.item_at.ensures
    ∙ ap (find nat_cmp c.args.slot) on_page
    ∙ get_of g.row.P inv.some (pages_of c.self.inside.pages) inv.sheets c.args.slot
    ∙ ap (λ m. get m c.args.slot) c.self.view_is
