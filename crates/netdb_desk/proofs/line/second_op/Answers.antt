use Rattle.netdb_desk.proofs.Lines.{two_steps}
use Rattle.netdb_desk.proofs.line.second_op.Goals as goal

pub returns-in-Run : goal.returns-in-Run
returns-in-Run c = two_steps c.args.lines.now c.second-item.result c.in-Run.op c.in-len2.len_at_least c.in-len2.len_below c.second-item.is c.in-Run.is
