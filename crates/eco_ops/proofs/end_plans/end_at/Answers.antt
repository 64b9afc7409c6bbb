use Rattle.std.proofs.Common.{ap, ◌∙◌}
use Rattle.std.specs.Option.{option_map}
use Rattle.eco_ops.specs.Ends.{seen_port}
use Rattle.eco_ops.proofs.Counts.{no_port_there}
use Rattle.eco_ops.proofs.end_plans.end_at.Goals as goal

pub returns-in_default : goal.returns-in_default
returns-in_default c = λ ports is there. no_port_there ports c.args.end.now.port c.args.end.now.bit (is ∙ ap (option_map seen_port) c.in_default.is)
