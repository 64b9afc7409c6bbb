use Rattle.std.proofs.Common.{◌<◌, ◌^◌, ap, ◌∙◌, arith}
use Rattle.ver_table.specs.Entries.{pairs_of}
use Rattle.ver_table.specs.Pages.{map_of, pages_of, sheets_of}
use Rattle.ver_table.specs.Rows.{set_all}
use Rattle.ver_table.proofs.Sheets.{AreSheets-revise_all}
use Rattle.ver_table.proofs.Values.{Each-with_all, order_of_pages, pages_revised, revised_map}
use Rattle.ver_table.proofs.table.Table.put_all.Goals as goal

pub overflow_cast-changed_pages : goal.overflow_cast-changed_pages
overflow_cast-changed_pages g c = omega (arith, c.self.invariant.few)

pub put_all-requires : goal.put_all-requires
put_all-requires g c = rw c.as_slice.ensures.value (order_of_pages c.in_ok-changed.changed.items c.in_ok-changed.ensures.rising)

pub invariant_of-result : goal.invariant_of-result
invariant_of-result g c =
    let inv = c.self.invariant in
    let old = pages_of c.self.inside.pages in
    let changed = sheets_of c.in_ok-changed.changed.items in
    let revised = pages_revised g.row.P c.self.inside.pages c.in_ok-pages.pages c.in_ok-changed.changed.items c.as_slice.result.now (pairs_of c.args.changes.now) c.as_slice.ensures.value c.in_ok-pages.ensures c.in_ok-changed.ensures.same in
    record {
      some = inv.some;
      few = inv.few;
      sheets = rw revised (AreSheets-revise_all g.row.P inv.some (pairs_of c.args.changes.now) old inv.sheets);
      typed = rw (revised, ← c.in_ok-changed.ensures.same) (Each-with_all (λ page. page.0 < 2 ^ 32) old changed inv.typed c.in_ok-changed.ensures.typed);
    }

pub returns : goal.returns
returns g c =
    let inv = c.self.invariant in
    let changes = pairs_of c.args.changes.now in
    ap map_of (pages_revised g.row.P c.self.inside.pages c.in_ok-pages.pages c.in_ok-changed.changed.items c.as_slice.result.now (pairs_of c.args.changes.now) c.as_slice.ensures.value c.in_ok-pages.ensures c.in_ok-changed.ensures.same) ∙ revised_map g.row.P inv.some (pages_of c.self.inside.pages) inv.sheets changes ∙ ap (λ m. set_all m changes) c.self.view_is
