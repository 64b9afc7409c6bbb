use Rattle.std.proofs.Common.{◌≤◌, List, arith, length, ap, ◌∙◌}
use Rattle.std.proofs.lemmas.List.{take_all}
use Rattle.where_used.specs.Moves.{without_olds}
use Rattle.where_used.specs.declared.moves.Move.{Move}
use Rattle.where_used.proofs.Moving.{olds_read}
use Rattle.where_used.proofs.moves.drop_olds.Goals as goal

pub loop-count-preserved : goal.loop-count-preserved
loop-count-preserved c = olds_read c.args.cell c.args.places.now c.loop-count.count _ c.args.used.now c.loop-count.used c.drop_old.new.used c.loop-count-test.true c.loop-count.invariant c.drop_old.ensures

pub returns : goal.returns
returns c =
    let past : length c.args.places.now ≤ c.loop-count.count = omega (arith, c.loop-count-test.false) in
    c.loop-count.invariant
    ∙ ap (λ (xs : List Move). without_olds c.args.cell xs c.args.used.now) (take_all c.loop-count.count c.args.places.now past)
