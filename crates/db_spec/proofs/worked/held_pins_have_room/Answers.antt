use Rattle.db_spec.proofs.Rooms as lemma
use Rattle.db_spec.proofs.worked.held_pins_have_room.Goals as goal

pub returns : goal.returns
returns c = lemma.have_pins
