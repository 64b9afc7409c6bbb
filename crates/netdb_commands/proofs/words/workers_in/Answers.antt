use Rattle.std.proofs.Common.{◌≡◌, ◌≤◌, ◌<◌, ◌^◌, arith}
use Prim.Native.Nat.{ℕ}
use Rattle.netdb_commands.proofs.WordLemmas.{same_number_of}
use Rattle.netdb_commands.proofs.words.workers_in.Goals as goal

small : (n : ℕ) → n ≤ 64 → n < 2 ^ 32
small n le = omega (arith, le)

pub returns-then-workers-eq0 : goal.returns-then-workers-eq0
returns-then-workers-eq0 c = λ n good is.
    let same : c.in_ok-workers.workers ≡ n = same_number_of c.args.word.now c.in_ok-workers.workers n c.in_ok-workers.ensures.0 c.in_ok-workers.ensures.1 (small n good.1) is in
    let least = good.0 in
    let zero = c.if-workers-eq0.true in
    absurd (omega (arith, same, least, zero))

pub returns-then-workers-gt-MOST_WORKERS : goal.returns-then-workers-gt-MOST_WORKERS
returns-then-workers-gt-MOST_WORKERS c = λ n good is.
    let same : c.in_ok-workers.workers ≡ n = same_number_of c.args.word.now c.in_ok-workers.workers n c.in_ok-workers.ensures.0 c.in_ok-workers.ensures.1 (small n good.1) is in
    let most = good.1 in
    let more = c.if-workers-gt-MOST_WORKERS.true in
    absurd (omega (arith, same, most, more))
