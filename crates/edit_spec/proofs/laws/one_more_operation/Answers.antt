use Rattle.edit_spec.proofs.Overlaid as lemma
use Rattle.edit_spec.proofs.laws.one_more_operation.Goals as goal

pub returns : goal.returns
returns c = record { design = λ d ops op. lemma.run_push ops d op; replies = λ d ops op. lemma.replies_push ops d op; reads = λ d ops op o. lemma.reads_push ops d op o; written = λ d ops op o. lemma.writes_push ops d op o }
