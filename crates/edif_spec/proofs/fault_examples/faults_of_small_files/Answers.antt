use Rattle.edif_spec.proofs.FaultExamples
use Rattle.edif_spec.proofs.fault_examples.faults_of_small_files.Goals as goal

pub returns-clause-version : goal.returns-clause-version
returns-clause-version c = FaultExamples.bad_version_stands

pub returns-clause-level : goal.returns-clause-level
returns-clause-level c = FaultExamples.bad_level_stands

pub returns-clause-libraries : goal.returns-clause-libraries
returns-clause-libraries c = FaultExamples.two_libraries_stands

pub returns-clause-view_type : goal.returns-clause-view_type
returns-clause-view_type c = FaultExamples.other_view_type_stands

pub returns-clause-views : goal.returns-clause-views
returns-clause-views c = FaultExamples.two_views_stands

pub returns-clause-bundle : goal.returns-clause-bundle
returns-clause-bundle c = FaultExamples.port_bundle_stands

pub returns-clause-exponent : goal.returns-clause-exponent
returns-clause-exponent c = FaultExamples.large_exponent_stands

pub returns-clause-ends : goal.returns-clause-ends
returns-clause-ends c = FaultExamples.joined_twice_stands

pub returns-clause-cell : goal.returns-clause-cell
returns-clause-cell c = FaultExamples.later_cell_stands

pub returns-clause-array : goal.returns-clause-array
returns-clause-array c = FaultExamples.whole_array_stands

pub returns-clause-width : goal.returns-clause-width
returns-clause-width c = FaultExamples.bad_width_stands

pub returns-clause-member : goal.returns-clause-member
returns-clause-member c = FaultExamples.member_again_stands

pub returns-clause-index : goal.returns-clause-index
returns-clause-index c = FaultExamples.high_index_stands

pub returns-clause-alike : goal.returns-clause-alike
returns-clause-alike c = FaultExamples.two_alike_stands

pub returns-clause-designs : goal.returns-clause-designs
returns-clause-designs c = FaultExamples.two_designs_stands

pub returns-clause-leaf : goal.returns-clause-leaf
returns-clause-leaf c = FaultExamples.no_view_stands

pub returns-clause-path : goal.returns-clause-path
returns-clause-path c = FaultExamples.empty_path_stands
