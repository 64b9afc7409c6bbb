use Rattle.std.proofs.Common.{◌≤◌, List, arith, length, ap, ◌∙◌}
use Rattle.std.proofs.lemmas.List.{take_all}
use Rattle.where_used.specs.Moves.{with_news}
use Rattle.where_used.specs.declared.moves.Move.{Move}
use Rattle.where_used.proofs.Moving.{news_read}
use Rattle.where_used.proofs.moves.put_news.Goals as goal

pub loop-count-preserved : goal.loop-count-preserved
loop-count-preserved c = news_read c.args.cell c.args.places.now c.loop-count.count _ c.args.used.now c.loop-count.used c.put_new.new.used c.loop-count-test.true c.loop-count.invariant c.in-Ok.ensures.ok

pub returns-in-Err-clause-err : goal.returns-in-Err-clause-err
returns-in-Err-clause-err c = c.drop_news.ensures c.args.used.now (c.in-Err.ensures.err ∙ c.loop-count.invariant)

pub returns-clause-ok : goal.returns-clause-ok
returns-clause-ok c =
    let past : length c.args.places.now ≤ c.loop-count.count = omega (arith, c.loop-count-test.false) in
    c.loop-count.invariant
    ∙ ap (λ (xs : List Move). with_news c.args.cell xs c.args.used.now) (take_all c.loop-count.count c.args.places.now past)
