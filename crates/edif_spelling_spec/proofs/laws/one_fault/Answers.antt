use Rattle.std.proofs.Common.{ap}
use Rattle.edif_spelling_spec.proofs.FaultLemmas.{first_stands, standing_is_first}
use Rattle.edif_spelling_spec.proofs.laws.one_fault.Goals as goal

pub returns-clause-stands : goal.returns-clause-stands
returns-clause-stands c bytes fault f = first_stands bytes fault f

pub returns-clause-only : goal.returns-clause-only
returns-clause-only c bytes ts fault h = let e = standing_is_first bytes ts fault h in (ap (λ l. l.fault) e, ap (λ l. l.tokens) e)
