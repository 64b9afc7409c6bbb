use Rattle.report_parts.proofs.Heading.{heads_by, no_word}
use Rattle.report_parts.proofs.heads.next_caller.Goals as goal

pub returns-in-Some-after : goal.returns-in-Some-after
returns-in-Some-after c = heads_by c.args.text.now c.in-Some.words.now c.in-Some-after.rest.now c.args.number c.args.callers c.in-Some.ensures c.in-Some-after.ensures c.by_some.result c.by_some.ensures

pub returns-in-None : goal.returns-in-None
returns-in-None c = no_word c.args.text.now c.in-Some.words.now c.in-Some.words.now c.args.number c.args.callers c.in-Some.ensures c.in-None.ensures
