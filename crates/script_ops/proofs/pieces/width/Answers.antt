use Rattle.std.proofs.Common.{◌∙◌, sym}
use Rattle.script_ops.proofs.FrontLemmas.{some_left}
use Rattle.script_ops.proofs.PieceLemmas.{no_width}
use Rattle.script_ops.proofs.pieces.width.Goals as goal

pub returns-then-not-is_empty : goal.returns-then-not-is_empty
returns-then-not-is_empty c b =
    no_width c.args.parts.now c.in-Some.word.now c.in-Some.others.now c.in-Some.ensures.cases.0 (some_left c.in-Some.others.now (sym c.is_empty.ensures ∙ c.if-not-is_empty.true))
