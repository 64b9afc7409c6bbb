use Rattle.std.proofs.Common.{◌≡◌, length, None}
use Rattle.std.specs.List.{All}
use Rattle.net_classes.proofs.tables.no_bits.Given as goal

abbrev pub invariant-loop : goal.invariant-loop
invariant-loop l = (length l.seen.items ≡ l.counter) × All (λ bit. bit ≡ None) l.seen.items
