use Rattle.std.proofs.Common.{refl}
use Rattle.ask_spec.proofs.SideLemmas.{sides_agree}
use Rattle.ask_spec.proofs.laws.sides_agree.Goals as goal

pub returns-clause-below : goal.returns-clause-below
returns-clause-below c = sides_agree

pub returns-clause-top : goal.returns-clause-top
returns-clause-top c = λ d port bit. refl
