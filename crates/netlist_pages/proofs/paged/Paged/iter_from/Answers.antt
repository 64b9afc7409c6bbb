use Rattle.std.proofs.Common.{◌≡◌, ◌+◌, ◌≤◌, ◌++◌, arith, Some, drop, length, refl, sym, slice_get, ap, ◌∙◌}
use Rattle.std.proofs.lemmas.List.{drop_all}
use Rattle.std.proofs.lemmas.Option.{slice_get_read}
use Rattle.netlist_pages.specs.Pages.{listed, IsSpot}
use Rattle.netlist_pages.proofs.RestLemmas.{rest_at}
use Rattle.netlist_pages.proofs.paged.Paged.iter_from.Goals as goal

pub returns-in-Some : goal.returns-in-Some
returns-in-Some g c =
    let pages = c.self.inside.pages.items in
    let page = c.index.result.now in
    let spot : IsSpot pages c.args.place c.in-Some.spot.page c.in-Some.spot.at = rw c.as_slice.ensures.value at c.in-Some.ensures.there in
    let found : slice_get pages c.in-Some.spot.page ≡ Some page = slice_get_read pages (length pages) c.in-Some.spot.page page refl spot.there c.index.ensures in
    let rest = rest_at pages c.in-Some.spot.page c.in-Some.spot.at c.args.place page found (omega (arith, spot.within page found)) spot.sum in
    let first : c.behind-first.result.now ≡ drop c.in-Some.spot.at page = c.behind-first.ensures ∙ ap (drop c.in-Some.spot.at) c.as_slice-page.ensures in
    let others : c.behind-others.result.now ≡ drop (c.in-Some.spot.page + 1) pages = c.behind-others.ensures ∙ ap (drop (c.in-Some.spot.page + 1)) c.as_slice-pages.ensures.value in
    (λ i. first i ++ listed (others i)) ∙ sym rest ∙ ap (drop c.args.place) c.self.view_is

pub returns-in-None : goal.returns-in-None
returns-in-None g c =
    let pages = c.self.inside.pages.items in
    let past : length (listed pages) ≤ c.args.place = rw c.as_slice.ensures.value at c.in-None.ensures.past in
    let none = drop_all c.args.place (listed pages) past in
    cc (none, c.self.view_is)
