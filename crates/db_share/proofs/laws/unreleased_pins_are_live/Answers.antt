use Rattle.db_share.proofs.Held as lemma
use Rattle.db_share.proofs.laws.unreleased_pins_are_live.Goals as goal

pub returns : goal.returns
returns c = lemma.unreleased
