use Rattle.std.proofs.Common.{◌≡◌, Some, length, length-set, refl, sym, slice_get, ap, ◌∙◌}
use Rattle.std.specs.Prelude.{slice_set}
use Rattle.std.proofs.lemmas.Option.{slice_get_read}
use Rattle.std.proofs.lemmas.Result.{on_ok_weaker}
use Rattle.netlist_pages.specs.Pages.{listed, IsSpot}
use Rattle.netlist_pages.proofs.PageLemmas.{put_listed}
use Rattle.netlist_pages.proofs.StepLemmas.{on_either, same_size}
use Rattle.netlist_pages.proofs.pages.put_in.Goals as goal

pub returns-clause-pages : goal.returns-clause-pages
returns-clause-pages g c =
    let pages = c.args.pages.now.items in
    let page = c.index_mut.result.now in
    let spot : IsSpot pages c.args.place c.in-Some.spot.page c.in-Some.spot.at = rw c.as_slice.ensures.value at c.in-Some.ensures.there in
    let found : slice_get pages c.in-Some.spot.page ≡ Some page = slice_get_read pages (length pages) c.in-Some.spot.page page refl spot.there c.index_mut.ensures.value in
    same_size pages c.args.ends.now c.in-Some.spot.page page c.put.new.self c.requires.pages found
    (on_either c.put.result c.put.ensures.ok c.put.ensures.err (λ is. ap length is ∙ length-set page c.in-Some.spot.at c.args.item) (λ is. ap length is))

pub returns-clause-ok : goal.returns-clause-ok
returns-clause-ok g c =
    let pages = c.args.pages.now.items in
    let page = c.index_mut.result.now in
    let spot : IsSpot pages c.args.place c.in-Some.spot.page c.in-Some.spot.at = rw c.as_slice.ensures.value at c.in-Some.ensures.there in
    let found : slice_get pages c.in-Some.spot.page ≡ Some page = slice_get_read pages (length pages) c.in-Some.spot.page page refl spot.there c.index_mut.ensures.value in
    on_ok_weaker c.put.result (λ is.
    ap (λ p. listed (slice_set pages c.in-Some.spot.page p)) is ∙ put_listed pages c.in-Some.spot.page c.in-Some.spot.at page c.args.item found (spot.within page found)
    ∙ ap (λ n. slice_set (listed pages) n c.args.item) (sym spot.sum)) c.put.ensures.ok
