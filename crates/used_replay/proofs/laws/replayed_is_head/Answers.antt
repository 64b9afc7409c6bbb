use Rattle.used_replay.proofs.Lasting.{replayed_is_head}
use Rattle.used_replay.proofs.laws.replayed_is_head.Goals as goal

pub returns : goal.returns
returns c = replayed_is_head
