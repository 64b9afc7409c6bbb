use Rattle.used_spec.proofs.InOrder.{users_are_instances, users_in_order}
use Rattle.used_spec.proofs.laws.users_are_instances.Goals as goal

pub returns : goal.returns
returns c = record { instances = users_are_instances; order = users_in_order }
