use Rattle.ungroup_spec.proofs.DoneLemmas.{dissolves}
use Rattle.ungroup_spec.proofs.laws.done_dissolves.Goals as goal

pub returns : goal.returns
returns c = dissolves
