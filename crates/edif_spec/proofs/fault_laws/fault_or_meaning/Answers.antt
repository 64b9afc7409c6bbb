use Rattle.edif_spec.proofs.FileFaultsApart.{stands_apart}
use Rattle.edif_spec.proofs.KnownDesigns.{stands_known}
use Rattle.edif_spec.proofs.fault_laws.fault_or_meaning.Goals as goal

pub returns-clause-apart : goal.returns-clause-apart
returns-clause-apart c t d f means stands = stands_apart t d f means stands

pub returns-clause-known : goal.returns-clause-known
returns-clause-known c t written = stands_known t written
