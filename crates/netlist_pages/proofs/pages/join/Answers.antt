use Rattle.std.proofs.Common.{◌≡◌, ◌+◌, ◌≤◌, ◌++◌, arith, Some, length, refl, slice_get, ap, ◌∙◌}
use Rattle.std.specs.Prelude.{slice_set, remove}
use Rattle.std.proofs.lemmas.Option.{slice_get_read}
use Rattle.netlist_pages.proofs.StepLemmas.{joined}
use Rattle.netlist_pages.proofs.pages.join.Goals as goal

pub mend-requires : goal.mend-requires
mend-requires g c =
    let pages = c.args.pages.now.items in
    let at = c.args.page in
    let first : slice_get pages at ≡ Some c.index-3.result.now = slice_get_read pages (length pages) at c.index-3.result.now refl (omega arith) c.index-3.ensures in
    let second : slice_get pages (at + 1) ≡ Some c.index-4.result.now = slice_get_read pages (length pages) (at + 1) c.index-4.result.now refl (omega arith) c.index-4.ensures in
    let third : slice_get pages at ≡ Some c.index.result.now = slice_get_read pages (length pages) at c.index.result.now refl (omega arith) c.index.ensures in
    let fourth : slice_get pages (at + 1) ≡ Some c.index-2.result.now = slice_get_read pages (length pages) (at + 1) c.index-2.result.now refl (omega arith) c.index-2.ensures in
    let same : c.index.result.now ≡ c.index-3.result.now = cc (first, third) in
    let same_next : c.index-2.result.now ≡ c.index-4.result.now = cc (second, fourth) in
    let fit : length c.index-3.result.now + length c.index-4.result.now ≤ 512 = omega (arith, c.if-saturating_add-gt-ROOM.false, c.saturating_add.ensures, c.len-2.ensures, c.len-3.ensures, ap length same, ap length same_next) in
    let made : c.remove.new.self.items ≡ remove (slice_set pages at (c.index-3.result.now ++ c.index-4.result.now)) (at + 1) = c.remove.ensures.items ∙ ap (λ p. remove (slice_set pages at p) (at + 1)) c.in-Ok.ensures in
    rw c.as_slice.ensures.value (joined pages c.remove.new.self.items c.args.ends.now.items at c.index-3.result.now c.index-4.result.now c.requires.pages c.requires.few first second fit made).0

pub returns-clause-pages : goal.returns-clause-pages
returns-clause-pages g c =
    let pages = c.args.pages.now.items in
    let at = c.args.page in
    let first : slice_get pages at ≡ Some c.index-3.result.now = slice_get_read pages (length pages) at c.index-3.result.now refl (omega arith) c.index-3.ensures in
    let second : slice_get pages (at + 1) ≡ Some c.index-4.result.now = slice_get_read pages (length pages) (at + 1) c.index-4.result.now refl (omega arith) c.index-4.ensures in
    let third : slice_get pages at ≡ Some c.index.result.now = slice_get_read pages (length pages) at c.index.result.now refl (omega arith) c.index.ensures in
    let fourth : slice_get pages (at + 1) ≡ Some c.index-2.result.now = slice_get_read pages (length pages) (at + 1) c.index-2.result.now refl (omega arith) c.index-2.ensures in
    let same : c.index.result.now ≡ c.index-3.result.now = cc (first, third) in
    let same_next : c.index-2.result.now ≡ c.index-4.result.now = cc (second, fourth) in
    let fit : length c.index-3.result.now + length c.index-4.result.now ≤ 512 = omega (arith, c.if-saturating_add-gt-ROOM.false, c.saturating_add.ensures, c.len-2.ensures, c.len-3.ensures, ap length same, ap length same_next) in
    let made : c.remove.new.self.items ≡ remove (slice_set pages at (c.index-3.result.now ++ c.index-4.result.now)) (at + 1) = c.remove.ensures.items ∙ ap (λ p. remove (slice_set pages at p) (at + 1)) c.in-Ok.ensures in
    record { filled = (joined pages c.remove.new.self.items c.args.ends.now.items at c.index-3.result.now c.index-4.result.now c.requires.pages c.requires.few first second fit made).1; sums = rw c.as_slice.ensures.value at c.mend.ensures }

pub returns-clause-same : goal.returns-clause-same
returns-clause-same g c =
    let pages = c.args.pages.now.items in
    let at = c.args.page in
    let first : slice_get pages at ≡ Some c.index-3.result.now = slice_get_read pages (length pages) at c.index-3.result.now refl (omega arith) c.index-3.ensures in
    let second : slice_get pages (at + 1) ≡ Some c.index-4.result.now = slice_get_read pages (length pages) (at + 1) c.index-4.result.now refl (omega arith) c.index-4.ensures in
    let third : slice_get pages at ≡ Some c.index.result.now = slice_get_read pages (length pages) at c.index.result.now refl (omega arith) c.index.ensures in
    let fourth : slice_get pages (at + 1) ≡ Some c.index-2.result.now = slice_get_read pages (length pages) (at + 1) c.index-2.result.now refl (omega arith) c.index-2.ensures in
    let same : c.index.result.now ≡ c.index-3.result.now = cc (first, third) in
    let same_next : c.index-2.result.now ≡ c.index-4.result.now = cc (second, fourth) in
    let fit : length c.index-3.result.now + length c.index-4.result.now ≤ 512 = omega (arith, c.if-saturating_add-gt-ROOM.false, c.saturating_add.ensures, c.len-2.ensures, c.len-3.ensures, ap length same, ap length same_next) in
    let made : c.remove.new.self.items ≡ remove (slice_set pages at (c.index-3.result.now ++ c.index-4.result.now)) (at + 1) = c.remove.ensures.items ∙ ap (λ p. remove (slice_set pages at p) (at + 1)) c.in-Ok.ensures in
    (joined pages c.remove.new.self.items c.args.ends.now.items at c.index-3.result.now c.index-4.result.now c.requires.pages c.requires.few first second fit made).2
