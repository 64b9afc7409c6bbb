use Rattle.db_spec.proofs.Faces as lemma
use Rattle.db_spec.proofs.worked.inside_and_interface_are_apart.Goals as goal

pub returns : goal.returns
returns c = lemma.are_faces_apart
