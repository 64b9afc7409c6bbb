use Rattle.flat_spec.proofs.ConnectionLemmas.{Connected-linked, Connected-from_linked}
use Rattle.flat_spec.proofs.laws.connection_is_local.Goals as goal

pub returns : goal.returns
returns c = λ d cell m n. (Connected-linked d cell m n, Connected-from_linked d cell m n)
