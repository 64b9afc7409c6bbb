use Rattle.edit_spec.proofs.Overlaid as lemma
use Rattle.edit_spec.proofs.laws.overlay_is_the_run.Goals as goal

pub returns : goal.returns
returns c = record { told = λ d ops o. lemma.written_told ops d o; only = lemma.overlay_is_run }
