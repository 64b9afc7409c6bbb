use Rattle.db_share.proofs.Held as lemma
use Rattle.db_share.proofs.laws.pins_stay.Goals as goal

pub returns : goal.returns
returns c = record { looks = lemma.stays_looking; makes = lemma.stays_making }
