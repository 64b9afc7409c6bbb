use Rattle.flat_joined_numbers.proofs.JoinedLemmas.{IsOnTheWay-step}
use Rattle.flat_joined_numbers.proofs.joined.find.Goals as goal

pub ways-preserved : goal.ways-preserved
ways-preserved c = IsOnTheWay-step c.args.labels.now c.ways.labels c.args.from c.ways.at c.ways.invariant c.ways-test.true
