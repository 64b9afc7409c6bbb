use Rattle.db_spec.proofs.Rooms as lemma
use Rattle.db_spec.proofs.worked.rounds_have_room.Goals as goal

pub returns : goal.returns
returns c = lemma.have_rounds
