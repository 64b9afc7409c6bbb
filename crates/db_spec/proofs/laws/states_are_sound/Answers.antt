use Rattle.db_spec.proofs.Sound as lemma
use Rattle.db_spec.proofs.Kept as kept
use Rattle.db_spec.proofs.laws.states_are_sound.Goals as goal

pub returns : goal.returns
returns c = record { sound = lemma.is_sound; counted = kept.events_after }
