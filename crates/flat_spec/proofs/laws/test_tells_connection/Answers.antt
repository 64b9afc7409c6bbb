use Rattle.flat_spec.proofs.RepresentativeLemmas.{connects-true, connects-from}
use Rattle.flat_spec.proofs.laws.test_tells_connection.Goals as goal

pub returns : goal.returns
returns c = λ d root x y acyclic. (connects-true d root x y, connects-from d acyclic root x y)
