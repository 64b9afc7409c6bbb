use Rattle.db_spec.specs.History.{version_at}
use Rattle.script_spec.specs.Session.{Nothing, exchanges}
use Rattle.script_spec.proofs.OneSession as lemma
use Rattle.script_spec.proofs.laws.one_transcript.Goals as goal

pub returns : goal.returns
returns c d history caller steps said others ending last x y =
    lemma.one_run (version_at d history) Nothing steps (exchanges caller history) said others ending last x y
