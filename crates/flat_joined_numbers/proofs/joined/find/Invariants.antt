use Rattle.flat_joined_numbers.proofs.JoinedLemmas.{IsOnTheWay}
use Rattle.flat_joined_numbers.proofs.joined.find.Given as goal

abbrev pub invariant-ways : goal.invariant-ways
invariant-ways l = IsOnTheWay l.initial.labels l.labels l.from l.at

abbrev pub decreases-ways : goal.decreases-ways
decreases-ways l = l.at
