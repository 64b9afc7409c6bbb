use Rattle.flat_spec.proofs.BitLemmas.{joined_own, joined_on}
use Rattle.flat_spec.proofs.laws.joined_bits_are_there.Goals as goal

pub returns-clause-own : goal.returns-clause-own
returns-clause-own c = joined_own

pub returns-clause-below : goal.returns-clause-below
returns-clause-below c = joined_on
