use Rattle.std.proofs.Common.{ℕ, drop, subst}
use Rattle.flat_spec.specs.Flattening.{flattening}
use Rattle.par_flat.specs.Desks.{IsCrew}
use Rattle.par_flat.specs.Lines.{IsRound}
use Rattle.par_flat.proofs.write.next_round.Goals as goal

pub returns-in-Ok-clause-crew : goal.returns-in-Ok-clause-crew
returns-in-Ok-clause-crew g c =
    let d = c.args.ground.now in
    subst (λ (n : ℕ). IsCrew d n c.take_lines.new.crew) c.make_and_put.ensures.crew.desks_len (c.in-Ok.ensures.crew d c.make_and_put.ensures.crew.desks)

pub returns-in-Ok-clause-round : goal.returns-in-Ok-clause-round
returns-in-Ok-clause-round g c =
    let d = c.args.ground.now in
    subst (λ (n : ℕ). IsRound d (drop c.args.round.first (flattening d)) c.args.round.most n c.in-Ok.made) c.make_and_put.ensures.crew.desks_len
    (c.in-Ok.ensures.round d (drop c.args.round.first (flattening d)) c.make_and_put.ensures.made)
