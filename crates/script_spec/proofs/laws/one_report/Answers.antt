use Rattle.script_spec.proofs.OneReport as lemma
use Rattle.script_spec.proofs.laws.one_report.Goals as goal

pub returns : goal.returns
returns c = lemma.one_report
