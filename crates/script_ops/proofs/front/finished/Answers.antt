use Rattle.std.proofs.Common.{◌∙◌, sym}
use Rattle.script_ops.proofs.FrontLemmas.{some_words}
use Rattle.script_ops.proofs.front.finished.Goals as goal

pub returns : goal.returns
returns c = some_words c.args.words.now (sym c.is_empty.ensures ∙ c.if-is_empty.false)
