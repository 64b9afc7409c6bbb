use Rattle.edif_spec.specs.declared.fault.ClashKind.TheVariants.{Duplicate, EndTwice, SecondDesign, SecondView}
use Rattle.edif_spec.specs.declared.fault.MeaningFault.TheVariants.{At, Clash, NotInProfile, OverLimit}
use Rattle.edif_spec.proofs.ToldLemmas.{stands_told}
use Rattle.edif_spec.proofs.fault_laws.fault_is_there.Goals as goal

pub returns-clause-outside : goal.returns-clause-outside
returns-clause-outside c t name place b = stands_told t (NotInProfile name place) b

pub returns-clause-at : goal.returns-clause-at
returns-clause-at c t kind place b = stands_told t (At kind place) b

pub returns-clause-views : goal.returns-clause-views
returns-clause-views c t place earlier b = stands_told t (Clash SecondView place earlier) b

pub returns-clause-designs : goal.returns-clause-designs
returns-clause-designs c t place earlier b = stands_told t (Clash SecondDesign place earlier) b

pub returns-clause-names : goal.returns-clause-names
returns-clause-names c t place earlier b = stands_told t (Clash Duplicate place earlier) b

pub returns-clause-ends : goal.returns-clause-ends
returns-clause-ends c t place earlier b = stands_told t (Clash EndTwice place earlier) b

pub returns-clause-limits : goal.returns-clause-limits
returns-clause-limits c t limit place b = stands_told t (OverLimit limit place) b
