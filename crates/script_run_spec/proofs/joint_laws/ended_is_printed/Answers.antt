use Rattle.script_run_spec.proofs.Joined.{printed}
use Rattle.script_run_spec.proofs.joint_laws.ended_is_printed.Goals as goal

pub returns : goal.returns
returns c = printed c.session_stays.ensures c.transcript_stays.ensures
