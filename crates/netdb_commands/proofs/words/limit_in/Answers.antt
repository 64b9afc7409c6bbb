use Rattle.std.proofs.Common.{◌≡◌, arith}
use Rattle.netdb_commands.proofs.WordLemmas.{same_number_of}
use Rattle.netdb_commands.proofs.words.limit_in.Goals as goal

pub returns-then-limit-eq0 : goal.returns-then-limit-eq0
returns-then-limit-eq0 c = λ n good is.
    let same : c.in_ok-limit.limit ≡ n = same_number_of c.args.word.now c.in_ok-limit.limit n c.in_ok-limit.ensures.0 c.in_ok-limit.ensures.1 good.1 is in
    let least = good.0 in
    let zero = c.if-limit-eq0.true in
    absurd (omega (arith, same, least, zero))
