use Rattle.std.proofs.Common.{◌≡◌, Some, length, refl, slice_get}
use Rattle.std.proofs.lemmas.Option.{slice_get_read}
use Rattle.netlist_pages.proofs.PageLemmas.{insert_listed}
use Rattle.netlist_pages.proofs.StepLemmas.{longer}
use Rattle.netlist_pages.proofs.pages.insert_at.Goals as goal

pub mend-requires : goal.mend-requires
mend-requires g c =
    let pages = c.args.pages.now.items in
    let found : slice_get pages c.args.page ≡ Some c.index_mut.result.now = slice_get_read pages (length pages) c.args.page c.index_mut.result.now refl c.requires.there c.index_mut.ensures.value in
    rw (c.as_slice.ensures.value, c.in_ok-insert.ensures.ok) (longer pages c.args.ends.now.items c.args.page c.args.at c.index_mut.result.now c.args.item c.requires.pages c.requires.few found (c.requires.room c.index_mut.result.now found)).0

pub returns-clause-pages : goal.returns-clause-pages
returns-clause-pages g c =
    let pages = c.args.pages.now.items in
    let found : slice_get pages c.args.page ≡ Some c.index_mut.result.now = slice_get_read pages (length pages) c.args.page c.index_mut.result.now refl c.requires.there c.index_mut.ensures.value in
    record {
      filled = rw c.in_ok-insert.ensures.ok (longer pages c.args.ends.now.items c.args.page c.args.at c.index_mut.result.now c.args.item c.requires.pages c.requires.few found (c.requires.room c.index_mut.result.now found)).1;
      sums = rw c.as_slice.ensures.value at c.mend.ensures;
    }

pub returns-clause-ok : goal.returns-clause-ok
returns-clause-ok g c =
    let pages = c.args.pages.now.items in
    let found : slice_get pages c.args.page ≡ Some c.index_mut.result.now = slice_get_read pages (length pages) c.args.page c.index_mut.result.now refl c.requires.there c.index_mut.ensures.value in
    rw c.in_ok-insert.ensures.ok (insert_listed pages c.args.page c.args.at c.index_mut.result.now c.args.item found (c.requires.room c.index_mut.result.now found).0)
