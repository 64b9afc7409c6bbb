use Rattle.std.proofs.Common.{◌≡◌, ◌+◌, ◌-◌, ◌<◌, ◌≤◌, arith, length, take, sym, ap, ◌∙◌}
use Rattle.where_used.specs.Moves.{with_news}
use Rattle.where_used.proofs.Moving.{news_unread}
use Rattle.where_used.proofs.moves.drop_news.Goals as goal

pub loop-left-preserved : goal.loop-left-preserved
loop-left-preserved c =
    let ms = c.args.places.now in
    let left = c.loop-left.left in
    let within = c.loop-left.invariant.0 in
    let some = c.loop-left-test.true in
    let back : left - 1 + 1 ≡ left = omega (arith, some) in
    let less : left - 1 < length ms = omega (arith, some, within) in
    let fits : left - 1 ≤ length ms = omega (arith, within) in (
      fits,
      λ index is.
          news_unread c.args.cell ms (left - 1) _ index c.loop-left.used c.drop_new.new.used less
          (c.loop-left.invariant.1 index is ∙ ap (λ n. with_news c.args.cell (take n ms) index) (sym back)) c.drop_new.ensures,
    )

pub returns : goal.returns
returns c = λ index is.
    let none : c.loop-left.left ≡ 0 = omega arith in
    c.loop-left.invariant.1 index is
    ∙ ap (λ n. with_news c.args.cell (take n c.args.places.now) index) none
