use Rattle.std.proofs.Common.{◌≡◌, arith, Some, length, refl, slice_get, ap, ◌∙◌}
use Rattle.std.proofs.lemmas.Option.{slice_get_read}
use Rattle.netlist_pages.proofs.PageLemmas.{filled_back, listed_removed}
use Rattle.netlist_pages.specs.Pages.{listed}
use Rattle.netlist_pages.proofs.pages.drop_empty.Goals as goal

pub returns-then-len-eq0-clause-same : goal.returns-then-len-eq0-clause-same
returns-then-len-eq0-clause-same g c =
    let pages = c.args.pages.now.items in
    let page = c.index.result.now in
    let found : slice_get pages c.args.page ≡ Some page = slice_get_read pages (length pages) c.args.page page refl c.requires.there c.index.ensures in
    ap listed c.remove.ensures.items ∙ listed_removed pages c.args.page page found (omega (arith, c.len.ensures, c.if-len-eq0.true))

pub returns-else-len-eq0-clause-filled : goal.returns-else-len-eq0-clause-filled
returns-else-len-eq0-clause-filled g c =
    let pages = c.args.pages.now.items in
    let page = c.index.result.now in
    let found : slice_get pages c.args.page ≡ Some page = slice_get_read pages (length pages) c.args.page page refl c.requires.there c.index.ensures in
    filled_back pages c.args.page page found (record { some = omega (arith, c.len.ensures, c.if-len-eq0.false); few = c.requires.few page found }) c.requires.filled
