use Rattle.script_words.specs.Reading.{lent}
use Rattle.script_reader.proofs.StepLemmas.{step_read, step_sayable, unknown_says}
use Rattle.script_reader.proofs.steps.read_step.Goals as goal

pub returns-in-Some-clause-said : goal.returns-in-Some-clause-said
returns-in-Some-clause-said c =
    step_read (lent c.args.words.now) c.in_ok-word.word.now (lent c.in_ok-word.others.now) c.in-Some.verb c.read_behind.result c.in_ok-word.ensures c.in-Some.ensures c.read_behind.ensures

pub returns-in-Some-clause-sayable : goal.returns-in-Some-clause-sayable
returns-in-Some-clause-sayable c =
    step_sayable (lent c.args.words.now) c.in_ok-word.word.now (lent c.in_ok-word.others.now) c.in-Some.verb c.read_behind.result c.in_ok-word.ensures c.in-Some.ensures c.read_behind.ensures

pub returns-in-None-clause-said : goal.returns-in-None-clause-said
returns-in-None-clause-said c b = unknown_says (lent c.args.words.now) c.in_ok-word.word.now (lent c.in_ok-word.others.now) c.in_ok-word.ensures c.in-None.ensures
