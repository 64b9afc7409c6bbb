use Rattle.db_spec.proofs.Promised as lemma
use Rattle.db_spec.proofs.laws.replies_on_head.Goals as goal

pub returns : goal.returns
returns c = record { same = lemma.replies_on_head; replies = lemma.accepted_replies }
