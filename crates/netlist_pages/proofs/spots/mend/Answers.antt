use Rattle.std.proofs.Common.{◌+◌, ◌≤◌, arith, length, length-set, sym, ◌∙◌}
use Rattle.std.proofs.lemmas.List.{take_all}
use Rattle.netlist_pages.specs.Pages.{ends_from}
use Rattle.netlist_pages.proofs.PageLemmas.{before_le, before_read, length_ends, mended}
use Rattle.netlist_pages.proofs.spots.mend.Goals as goal

pub overflow_add-end : goal.overflow_add-end
overflow_add-end g c =
    let pages = c.args.pages.now in
    let next = before_read pages c.loop-page.page c.index-pages-page.result (omega (arith, c.loop-page-test.true)) c.index-pages-page.is in
    let most = before_le pages (c.loop-page.page + 1) in
    omega (arith, next, most, c.len-end.ensures, c.loop-page.invariant.sum, c.requires.count)

pub loop-page-preserved : goal.loop-page-preserved
loop-page-preserved g c =
    let pages = c.args.pages.now in
    let within = c.loop-page-test.true in
    let next = before_read pages c.loop-page.page c.index-pages-page.result within c.index-pages-page.is in
    record {
      each = omega (arith, length-set c.loop-page.ends.items c.loop-page.page (c.loop-page.end + c.len-end.result), c.loop-page.invariant.each);
      front = mended pages c.loop-page.ends.items c.loop-page.page (c.loop-page.end + c.len-end.result) c.index-pages-page.result within c.loop-page.invariant.each c.index-pages-page.is c.loop-page.invariant.front (omega (arith, c.len-end.ensures, c.loop-page.invariant.sum));
      sum = omega (arith, next, c.len-end.ensures, c.loop-page.invariant.sum);
    }

pub returns : goal.returns
returns g c =
    let pages = c.args.pages.now in
    let past : length pages ≤ c.loop-page.page = omega arith in
    sym (take_all c.loop-page.page c.loop-page.ends.items (omega (arith, c.loop-page.invariant.each))) ∙ c.loop-page.invariant.front ∙ take_all c.loop-page.page (ends_from 0 pages) (omega (arith, length_ends 0 pages))
