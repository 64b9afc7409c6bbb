use Rattle.edif_spec.proofs.FaultExamples
use Rattle.edif_spec.proofs.fault_examples.faults_of_large_files.Goals as goal

pub returns-clause-libraries : goal.returns-clause-libraries
returns-clause-libraries c count l = FaultExamples.many_libraries_stand count l

pub returns-clause-bits : goal.returns-clause-bits
returns-clause-bits c count l = FaultExamples.many_bits_stand count l
