use Rattle.edit_spec.proofs.Overlaid as lemma
use Rattle.edit_spec.proofs.laws.commit_overlays.Goals as goal

pub returns : goal.returns
returns c = lemma.commit_overlays
