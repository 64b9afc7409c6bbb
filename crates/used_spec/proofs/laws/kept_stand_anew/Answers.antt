use Rattle.used_spec.proofs.KeptCells.{stands_anew, stood_before}
use Rattle.used_spec.proofs.laws.kept_stand_anew.Goals as goal

pub returns : goal.returns
returns c = record { stand = stands_anew; come = stood_before }
