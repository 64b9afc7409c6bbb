use Rattle.std.proofs.Common.{ap}
use Rattle.edif_spelling_spec.proofs.Followed.{fault_follows}
use Rattle.edif_spelling_spec.proofs.Mended.{fault_mends}
use Rattle.edif_spelling_spec.proofs.end_laws.fault_stays.Goals as goal

pub returns-clause-stays : goal.returns-clause-stays
returns-clause-stays c bytes more fault f free = let e = fault_follows bytes more fault f free in (ap (λ l. l.fault) e, ap (λ l. l.tokens) e)

pub returns-clause-mends : goal.returns-clause-mends
returns-clause-mends c bytes fault f made = fault_mends bytes fault f made
