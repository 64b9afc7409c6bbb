use Rattle.db_spec.proofs.Histories as lemma
use Rattle.db_spec.proofs.laws.one_more_event.Goals as goal

pub returns : goal.returns
returns c = record { legal = lemma.one_more_is_legal; state = lemma.state_after-push }
