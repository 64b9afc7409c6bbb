use Rattle.eco_ops.proofs.EndsKept.{kept_before, kept_own}
use Rattle.eco_ops.proofs.inst_plans.is_from.Goals as goal
use borrow.Author.Tests.{leb-false}

pub returns-in-Some : goal.returns-in-Some
returns-in-Some c = λ off. kept_before c.args.place c.in-Some.i c.args.end.now c.in-Some.is (leb-false c.args.place c.in-Some.i off)

pub returns-in-None : goal.returns-in-None
returns-in-None c = λ off. kept_own c.args.place c.args.end.now c.in-None.is
