use Rattle.std.proofs.Common.{◌++◌, sym, ◌∙◌}
use Rattle.where_used.specs.Moves.{move_at}
use Rattle.where_used.proofs.Moving.{moves_next}
use Rattle.where_used.proofs.moves.few_moves.Goals as goal

pub loop-place-preserved : goal.loop-place-preserved
loop-place-preserved c =
    c.in_ok-add_move.ensures
    ∙ (λ i. c.loop-place.invariant i ++ move_at c.loop-place.place (c.cell_of-old.ensures i) (c.cell_of-new.ensures i))
    ∙ sym (moves_next c.args.olds.now c.args.news.now c.loop-place.place)
