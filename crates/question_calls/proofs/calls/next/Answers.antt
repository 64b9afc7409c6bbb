use Rattle.question_calls.proofs.calls.next.Goals as goal

pub returns : goal.returns
returns c = (c.next-item.ensures.version, (c.next-item.result, c.next-item.ensures.item, c.say_next.ensures))
