use Rattle.std.proofs.Common.{◌≡◌, Some, length, refl, slice_get}
use Rattle.std.proofs.lemmas.Option.{slice_get_read}
use Rattle.netlist_pages.proofs.StepLemmas.{halved}
use Rattle.netlist_pages.proofs.pages.halve.Goals as goal

pub mend-requires : goal.mend-requires
mend-requires g c =
    let pages = c.args.pages.now.items in
    let page = c.index.result.now in
    let found : slice_get pages c.args.page ≡ Some page = slice_get_read pages (length pages) c.args.page page refl c.requires.there c.index.ensures in
    let ok = c.in_ok-add_page.ensures.ok in
    rw c.as_slice.ensures.value
    (halved pages c.add_page.new.pages.items c.args.ends.now.items c.add_page.new.ends.items c.args.page page c.in_ok-front.front c.in_ok-front.back c.requires.pages c.requires.few found (c.requires.full page found) c.in_ok-front.ensures.front c.in_ok-front.ensures.back ok.0 ok.1).0

pub returns-clause-pages : goal.returns-clause-pages
returns-clause-pages g c =
    let pages = c.args.pages.now.items in
    let page = c.index.result.now in
    let found : slice_get pages c.args.page ≡ Some page = slice_get_read pages (length pages) c.args.page page refl c.requires.there c.index.ensures in
    let ok = c.in_ok-add_page.ensures.ok in
    record {
      filled = (halved pages c.add_page.new.pages.items c.args.ends.now.items c.add_page.new.ends.items c.args.page page c.in_ok-front.front c.in_ok-front.back c.requires.pages c.requires.few found (c.requires.full page found) c.in_ok-front.ensures.front c.in_ok-front.ensures.back ok.0 ok.1).1;
      sums = rw c.as_slice.ensures.value at c.mend.ensures;
    }

pub returns-clause-ok : goal.returns-clause-ok
returns-clause-ok g c =
    let pages = c.args.pages.now.items in
    let page = c.index.result.now in
    let found : slice_get pages c.args.page ≡ Some page = slice_get_read pages (length pages) c.args.page page refl c.requires.there c.index.ensures in
    let ok = c.in_ok-add_page.ensures.ok in
    (halved pages c.add_page.new.pages.items c.args.ends.now.items c.add_page.new.ends.items c.args.page page c.in_ok-front.front c.in_ok-front.back c.requires.pages c.requires.few found (c.requires.full page found) c.in_ok-front.ensures.front c.in_ok-front.ensures.back ok.0 ok.1).2
