use Rattle.std.proofs.Common.{◌≡◌, length, None}
use Rattle.std.specs.List.{All}
use Rattle.net_classes.proofs.joints.no_nets.Given as goal

abbrev pub invariant-loop : goal.invariant-loop
invariant-loop l = (length l.own.items ≡ l.counter) × All (λ net. net ≡ None) l.own.items
