use Rattle.uniquify_spec.proofs.ForCode as lemma
use Rattle.uniquify_spec.proofs.laws.copies_are_made_in_one_pass.Goals as goal

pub returns : goal.returns
returns c = record { copies = lemma.copies_go_on; firsts = lemma.firsts_have_none_before }
