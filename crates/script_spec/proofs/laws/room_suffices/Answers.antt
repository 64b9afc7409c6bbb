use Rattle.script_spec.proofs.Places as lemma
use Rattle.script_spec.proofs.laws.room_suffices.Goals as goal

pub returns : goal.returns
returns c = lemma.room_suffices
