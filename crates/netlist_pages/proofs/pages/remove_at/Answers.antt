use Rattle.std.proofs.Common.{◌≡◌, arith, Some, length, refl, sym, slice_get, subst, ap, ◌∙◌}
use Rattle.std.specs.Prelude.{slice_set, remove}
use Rattle.std.proofs.lemmas.List.Edits.{length-remove}
use Rattle.std.proofs.lemmas.Option.{slice_get_read}
use Rattle.netlist_pages.specs.Pages.{AreFilled}
use Rattle.netlist_pages.proofs.PageLemmas.{filled_at, filled_remove, get_listed, get_set_same, remove_set}
use Rattle.netlist_pages.proofs.StepLemmas.{shorter}
use Rattle.netlist_pages.proofs.pages.remove_at.Goals as goal

pub drop_empty-requires-clause-filled : goal.drop_empty-requires-clause-filled
drop_empty-requires-clause-filled g c =
    let pages = c.args.pages.now.items in
    subst AreFilled (sym (remove_set pages c.args.page c.remove.new.self)) (filled_remove pages c.args.page c.requires.pages.filled)

pub drop_empty-requires-clause-few : goal.drop_empty-requires-clause-few
drop_empty-requires-clause-few g c p here =
    let pages = c.args.pages.now.items in
    let page = c.index_mut.result.now in
    let found : slice_get pages c.args.page ≡ Some page = slice_get_read pages (length pages) c.args.page page refl c.requires.there c.index_mut.ensures.value in
    let was = filled_at pages c.args.page page c.requires.pages.filled found in
    let now : c.remove.new.self ≡ p = cc (get_set_same pages c.args.page c.remove.new.self c.requires.there, here) in
    let size = ap length c.in_ok-item.ensures.ok in
    omega (arith, ap length now, size, length-remove page c.args.at (c.requires.within page found), was.few)

pub mend-requires : goal.mend-requires
mend-requires g c =
    let pages = c.args.pages.now.items in
    let page = c.index_mut.result.now in
    let found : slice_get pages c.args.page ≡ Some page = slice_get_read pages (length pages) c.args.page page refl c.requires.there c.index_mut.ensures.value in
    let mid = slice_set pages c.args.page c.remove.new.self in
    let made : mid ≡ slice_set pages c.args.page (remove page c.args.at) = ap (slice_set pages c.args.page) c.in_ok-item.ensures.ok in
    rw c.as_slice.ensures.value
    (shorter pages mid c.drop_empty.new.pages.items c.args.ends.now.items c.args.page c.args.at page c.requires.pages c.requires.few found (c.requires.within page found) made c.drop_empty.ensures.same c.drop_empty.ensures.front c.drop_empty.ensures.count).0

pub returns-clause-was : goal.returns-clause-was
returns-clause-was g c =
    let pages = c.args.pages.now.items in
    let page = c.index_mut.result.now in
    let found : slice_get pages c.args.page ≡ Some page = slice_get_read pages (length pages) c.args.page page refl c.requires.there c.index_mut.ensures.value in
    get_listed pages c.args.page c.args.at page found (c.requires.within page found) ∙ c.in_ok-item.ensures.was

pub returns-clause-ok : goal.returns-clause-ok
returns-clause-ok g c =
    let pages = c.args.pages.now.items in
    let page = c.index_mut.result.now in
    let found : slice_get pages c.args.page ≡ Some page = slice_get_read pages (length pages) c.args.page page refl c.requires.there c.index_mut.ensures.value in
    let mid = slice_set pages c.args.page c.remove.new.self in
    let made : mid ≡ slice_set pages c.args.page (remove page c.args.at) = ap (slice_set pages c.args.page) c.in_ok-item.ensures.ok in
    (shorter pages mid c.drop_empty.new.pages.items c.args.ends.now.items c.args.page c.args.at page c.requires.pages c.requires.few found (c.requires.within page found) made c.drop_empty.ensures.same c.drop_empty.ensures.front c.drop_empty.ensures.count).1
