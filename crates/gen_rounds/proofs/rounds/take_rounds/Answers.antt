use Rattle.std.proofs.Common.{◌≡◌, ℕ, subst, arith}
use Rattle.gen_rounds.specs.Stand.{StandsAfter}
use Rattle.gen_rounds.proofs.rounds.take_rounds.Goals as goal

pub returns : goal.returns
returns c =
    let at : c.loop-passed.passed ≡ c.args.count = omega arith in
    subst (λ (k : ℕ). StandsAfter c.args.count k c.loop-passed.core) at c.loop-passed.invariant
