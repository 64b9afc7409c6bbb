use Rattle.flat_spec.proofs.TowerLemmas.{tower_begins}
use Rattle.flat_spec.proofs.laws.tower_begins.Goals as goal

pub returns : goal.returns
returns c = tower_begins
