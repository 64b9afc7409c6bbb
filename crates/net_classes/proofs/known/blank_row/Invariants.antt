use Rattle.std.proofs.Common.{◌≡◌, length}
use Rattle.std.specs.List.{All}
use Rattle.net_classes.specs.Facts.{facts_of, no_facts}
use Rattle.net_classes.proofs.known.blank_row.Given as goal

abbrev pub invariant-loop : goal.invariant-loop
invariant-loop l = (length l.row.items ≡ l.counter) × All (λ nets. facts_of nets ≡ no_facts) l.row.items
