use Rattle.history_check.proofs.Finishing.{never_ends}
use Rattle.history_check.proofs.ends.end_of.Goals as goal

pub returns-in_default : goal.returns-in_default
returns-in_default c = never_ends c.args.at.now _ c.requires c.in_default.not-Free c.in_default.not-OffPin c.in_default.not-Again c.in_default.not-Over
