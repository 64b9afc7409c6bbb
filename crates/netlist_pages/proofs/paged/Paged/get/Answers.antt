use Rattle.std.proofs.Common.{◌≡◌, ◌≤◌, Some, length, refl, sym, slice_get, ap, ◌∙◌}
use Rattle.std.proofs.lemmas.Option.{slice_get_past, slice_get_read}
use Rattle.netlist_pages.specs.Pages.{listed, IsSpot}
use Rattle.netlist_pages.proofs.PageLemmas.{get_listed}
use Rattle.netlist_pages.proofs.paged.Paged.get.Goals as goal

pub returns-in-Some : goal.returns-in-Some
returns-in-Some g c =
    let pages = c.self.inside.pages.items in
    let page = c.index.result.now in
    let spot : IsSpot pages c.args.place c.in-Some.spot.page c.in-Some.spot.at = rw c.as_slice.ensures.value at c.in-Some.ensures.there in
    let found : slice_get pages c.in-Some.spot.page ≡ Some page = slice_get_read pages (length pages) c.in-Some.spot.page page refl spot.there c.index.ensures in
    let there = get_listed pages c.in-Some.spot.page c.in-Some.spot.at page found (spot.within page found) in
    cc (there, spot.sum, c.get.ensures, c.self.view_is)

pub returns-in-None : goal.returns-in-None
returns-in-None g c =
    let pages = c.self.inside.pages.items in
    let past : length (listed pages) ≤ c.args.place = rw c.as_slice.ensures.value at c.in-None.ensures.past in
    sym (ap (λ l. slice_get l c.args.place) (sym c.self.view_is) ∙ slice_get_past (listed pages) c.args.place past)
