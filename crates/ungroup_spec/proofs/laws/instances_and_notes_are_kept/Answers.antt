use Rattle.ungroup_spec.proofs.KeptLemmas.{instances_are_kept, notes_are_moved}
use Rattle.ungroup_spec.proofs.NamesLemmas.{names_are_moved}
use Rattle.ungroup_spec.proofs.laws.instances_and_notes_are_kept.Goals as goal

pub returns : goal.returns
returns c = record { insts = instances_are_kept; names = names_are_moved; notes = notes_are_moved }
