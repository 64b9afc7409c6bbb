use Rattle.edif_spelling_spec.proofs.FirstTreeFault.{fault_stands}
use Rattle.edif_spelling_spec.proofs.OneTreeFault.{standing_is_fault}
use Rattle.edif_spelling_spec.proofs.tree_laws.fault_is_first.Goals as goal

pub returns-clause-stands : goal.returns-clause-stands
returns-clause-stands c ts end fault e = fault_stands ts end fault e

pub returns-clause-only : goal.returns-clause-only
returns-clause-only c ts end fault h = standing_is_fault ts end fault h
