use Rattle.std.proofs.Common.{◌≡◌, length, None}
use Rattle.std.specs.List.{All}
use Rattle.uniquify_copies.proofs.turn.nothing_turned.Given as goal

-- so many so far
abbrev pub invariant-loop : goal.invariant-loop
invariant-loop l = record { long : length l.made.items ≡ l.counter; nothing : All (λ contents. contents ≡ None) l.made.items }
