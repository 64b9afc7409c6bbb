use Rattle.std.proofs.Common.{◌/◌, ◌≤◌, ap, ◌∙◌, arith}
use Rattle.std.specs.Ordering.{nat_cmp}
use Rattle.std.specs.FinMap.{find, get}
use Rattle.ver_table.specs.declared.directory.TheConstants.{GROUP}
use Rattle.ver_table.specs.Pages.{sheets_of, sheet_at}
use Rattle.ver_table.proofs.Sheets.{sheet_in_order}
use Rattle.ver_table.proofs.Values.{get_of}
use Rattle.ver_table.proofs.directory.Directory.get.Goals as goal

pub entries_of-requires : goal.entries_of-requires
entries_of-requires g c = rw c.as_slice.ensures.value c.self.invariant.rising

pub item_at-requires : goal.item_at-requires
item_at-requires g c =
    let some : 1 ≤ GROUP = omega arith in
    let on_page = c.entries_of.ensures ∙ ap (sheet_at (sheets_of c.as_slice.result.now)) c.page_of.ensures ∙ ap (λ pages. sheet_at (sheets_of pages) (c.args.number / GROUP)) c.as_slice.ensures.value in
    rw on_page (sheet_in_order GROUP some (c.args.number / GROUP) (sheets_of c.self.inside.groups.items) c.self.invariant)

pub returns : goal.returns
returns g c =
    let some : 1 ≤ GROUP = omega arith in
    let on_page = c.entries_of.ensures ∙ ap (sheet_at (sheets_of c.as_slice.result.now)) c.page_of.ensures ∙ ap (λ pages. sheet_at (sheets_of pages) (c.args.number / GROUP)) c.as_slice.ensures.value in
    c.item_at.ensures
    ∙ ap (find nat_cmp c.args.number) on_page
    ∙ get_of GROUP some (sheets_of c.self.inside.groups.items) c.self.invariant c.args.number
    ∙ ap (λ m. get m c.args.number) c.self.view_is
