use Rattle.std.proofs.Common.{◌^◌, sym, ap, ◌∙◌, arith}
use Rattle.ver_table.specs.Pages.{pages_of}
use Rattle.ver_table.specs.Rows.{page_count}
use Rattle.ver_table.proofs.Counts.{pages_counted}
use Rattle.ver_table.proofs.Values.{few_below, pages_number}
use Rattle.ver_table.proofs.table.Table.pages.Goals as goal

pub len-requires : goal.len-requires
len-requires g c =
    let inv = c.self.invariant in
    omega (arith, pages_number c.self.inside.pages, few_below (2 ^ 32) (pages_of c.self.inside.pages) inv.sheets.rising inv.typed)

pub returns : goal.returns
returns g c =
    let inv = c.self.invariant in
    let pages = pages_of c.self.inside.pages in
    c.len.ensures ∙ pages_number c.self.inside.pages ∙ sym (pages_counted g.row.P inv.some pages inv.sheets) ∙ ap (page_count g.row.P) c.self.view_is
