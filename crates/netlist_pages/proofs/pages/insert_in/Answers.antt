use Rattle.std.proofs.Common.{◌≡◌, ◌+◌, ◌-◌, arith, Some, length, refl, sym, slice_get, ap, ◌∙◌}
use Rattle.std.specs.Prelude.{insert}
use Rattle.std.proofs.lemmas.Option.{slice_get_read}
use Rattle.std.proofs.lemmas.Result.{on_ok_weaker}
use Rattle.netlist_pages.specs.Pages.{before, listed, IsGap}
use Rattle.netlist_pages.proofs.PageLemmas.{filled_at, insert_last}
use Rattle.netlist_pages.proofs.StepLemmas.{back_start, gap_last, gap_within}
use Rattle.netlist_pages.proofs.pages.insert_in.Goals as goal

pub returns-then-gap-len-clause-ok : goal.returns-then-gap-len-clause-ok
returns-then-gap-len-clause-ok g c =
    let pages = c.args.pages.now.items in
    let gap : IsGap pages c.args.place c.in-Some.gap.page c.in-Some.gap.at = rw c.as_slice.ensures.value at c.in-Some.ensures.there in
    let end = gap_last pages c.args.place c.in-Some.gap.page c.in-Some.gap.at c.requires.pages.filled gap (omega (arith, c.if-gap-eq-ROOM.true)) (omega arith) in
    on_ok_weaker c.push_page-then-gap-len.result (λ is. is ∙ sym (insert_last (listed pages) c.args.place c.args.item end)) c.push_page-then-gap-len.ensures.ok

pub halve-requires-clause-full : goal.halve-requires-clause-full
halve-requires-clause-full g c p found =
    let pages = c.args.pages.now.items in
    let gap : IsGap pages c.args.place c.in-Some.gap.page c.in-Some.gap.at = rw c.as_slice.ensures.value at c.in-Some.ensures.there in
    let read : slice_get pages c.in-Some.gap.page ≡ Some c.index.result.now = slice_get_read pages (length pages) c.in-Some.gap.page c.index.result.now refl gap.there c.index.ensures in
    let same : p ≡ c.index.result.now = cc (found, read) in
    let size = filled_at pages c.in-Some.gap.page p c.requires.pages.filled found in
    omega (arith, ap length same, c.len.ensures, c.if-len-lt-ROOM.false, size.few)

pub insert_at-requires-else-gap-le-HALF-clause-room : goal.insert_at-requires-else-gap-le-HALF-clause-room
insert_at-requires-else-gap-le-HALF-clause-room g c p found =
    let pages = c.args.pages.now.items in
    let gap : IsGap pages c.args.place c.in-Some.gap.page c.in-Some.gap.at = rw c.as_slice.ensures.value at c.in-Some.ensures.there in
    let most = gap_within pages c.args.place c.in-Some.gap.page c.in-Some.gap.at c.requires.pages.filled gap in
    let half = c.in_ok-halve.ensures.ok.back p found in
    (omega (arith, half, most), omega (arith, half))

pub returns-else-gap-le-HALF-clause-ok : goal.returns-else-gap-le-HALF-clause-ok
returns-else-gap-le-HALF-clause-ok g c =
    let pages = c.args.pages.now.items in
    let mid = c.halve.new.pages.items in
    let gap : IsGap pages c.args.place c.in-Some.gap.page c.in-Some.gap.at = rw c.as_slice.ensures.value at c.in-Some.ensures.there in
    let halves = c.in_ok-halve.ensures.ok in
    let start = back_start pages mid c.in-Some.gap.page halves in
    let place : before mid (c.in-Some.gap.page + 1) + (c.in-Some.gap.at - 256) ≡ c.args.place = omega (arith, start, gap.sum, c.if-gap-le-HALF.false) in
    on_ok_weaker c.insert_at-else-gap-le-HALF.result (λ is.
    is ∙ ap (λ n. insert (listed mid) n c.args.item) place ∙ ap (λ l. insert l c.args.place c.args.item) halves.same) c.insert_at-else-gap-le-HALF.ensures.ok
