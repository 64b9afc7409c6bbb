use Rattle.flat_spec.proofs.BelowLemmas.{items_go_down, flattening_is_under_top}
use Rattle.flat_spec.proofs.laws.items_go_down.Goals as goal

pub returns-clause-down : goal.returns-clause-down
returns-clause-down c = items_go_down

pub returns-clause-top : goal.returns-clause-top
returns-clause-top c = flattening_is_under_top
