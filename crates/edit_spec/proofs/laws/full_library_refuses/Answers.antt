use Rattle.edit_spec.proofs.Full as lemma
use Rattle.edit_spec.proofs.laws.full_library_refuses.Goals as goal

pub returns : goal.returns
returns c = lemma.full_library
