use Rattle.std.proofs.Common.{◌≡◌, ◌≤◌, ◌<◌, ◌^◌, arith}
use Prim.Native.Nat.{ℕ}
use Rattle.netdb_commands.proofs.WordLemmas.{same_number_of}
use Rattle.netdb_commands.proofs.words.size_in.Goals as goal

small : (n : ℕ) → n ≤ 4096 → n < 2 ^ 32
small n le = omega (arith, le)

pub returns-then-size-eq0 : goal.returns-then-size-eq0
returns-then-size-eq0 c = λ n good is.
    let same : c.in_ok-size.size ≡ n = same_number_of c.args.word.now c.in_ok-size.size n c.in_ok-size.ensures.0 c.in_ok-size.ensures.1 (small n good.1) is in
    let least = good.0 in
    let zero = c.if-size-eq0.true in
    absurd (omega (arith, same, least, zero))

pub returns-then-size-gt-MOST_SIZE : goal.returns-then-size-gt-MOST_SIZE
returns-then-size-gt-MOST_SIZE c = λ n good is.
    let same : c.in_ok-size.size ≡ n = same_number_of c.args.word.now c.in_ok-size.size n c.in_ok-size.ensures.0 c.in_ok-size.ensures.1 (small n good.1) is in
    let most = good.1 in
    let more = c.if-size-gt-MOST_SIZE.true in
    absurd (omega (arith, same, most, more))
