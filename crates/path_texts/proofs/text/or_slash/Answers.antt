use Rattle.path_texts.proofs.StepLemmas.{is_none, is_some, with_steps, without_steps}
use Rattle.path_texts.proofs.text.or_slash.Goals as goal

pub returns-then-is_empty : goal.returns-then-is_empty
returns-then-is_empty c = λ d root path top is. without_steps d root path c.args.text.now top is (is_none c.args.text.now c.if-is_empty.ensures)

pub returns-else-is_empty : goal.returns-else-is_empty
returns-else-is_empty c = λ d root path top is. with_steps d root path c.args.text.now top is (is_some c.args.text.now c.if-is_empty.ensures)
