use Rattle.edit_spec.proofs.ShownWhole as lemma
use Rattle.edit_spec.proofs.laws.net_is_shown_whole.Goals as goal

pub returns : goal.returns
returns c = lemma.net_is_shown
