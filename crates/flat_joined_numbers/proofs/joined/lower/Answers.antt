use Rattle.flat_joined_numbers.proofs.JoinedLemmas.{AreLabels-set}
use Rattle.flat_joined_numbers.proofs.joined.lower.Goals as goal

pub returns-then-to-labels-clause-labels : goal.returns-then-to-labels-clause-labels
returns-then-to-labels-clause-labels c =
    λ pairs are chain. AreLabels-set pairs c.args.labels.now c.args.at c.args.to c.requires.within c.requires.less chain are
