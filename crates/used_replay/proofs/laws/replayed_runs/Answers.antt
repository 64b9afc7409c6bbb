use Rattle.used_replay.proofs.Partway.{replayed_runs}
use Rattle.used_replay.proofs.laws.replayed_runs.Goals as goal

pub returns : goal.returns
returns c = replayed_runs
