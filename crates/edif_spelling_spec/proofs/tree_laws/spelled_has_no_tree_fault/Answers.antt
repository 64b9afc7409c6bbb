use Rattle.edif_spelling_spec.proofs.PlacedListings.{spelled_file, file_spells}
use Rattle.edif_spelling_spec.proofs.tree_laws.spelled_has_no_tree_fault.Goals as goal

pub returns-clause-file : goal.returns-clause-file
returns-clause-file c bytes b h = spelled_file bytes b h

pub returns-clause-spelled : goal.returns-clause-spelled
returns-clause-spelled c bytes t none h = file_spells bytes t none h
