use Rattle.db_share.proofs.Opened as lemma
use Rattle.db_share.proofs.laws.passes_go_on.Goals as goal

pub returns : goal.returns
returns c = record { first = lemma.new_is_ready; both = lemma.goes_on_twice }
