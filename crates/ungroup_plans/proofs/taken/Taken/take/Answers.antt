use Rattle.std.proofs.Common.{◌∷◌, subst}
use Rattle.ungroup_plans.specs.Taken.{IsOf}
use Rattle.ungroup_plans.proofs.taken.Taken.take.Goals as goal

pub returns : goal.returns
returns c = λ names of. subst (λ v. IsOf c.take_bytes.new.self (v ∷ names)) c.as_slice.ensures.value (c.in_ok-_is_new.ensures.told names of).1
