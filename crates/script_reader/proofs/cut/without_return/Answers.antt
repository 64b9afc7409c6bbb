use Rattle.std.proofs.Common.{◌≡◌, ◌∙◌, [], ◌∷◌, ◌++◌, ap, sym}
use Rattle.script_spec.specs.ScriptText.{without_return}
use Rattle.script_reader.proofs.CutLemmas.{dropped, is_13, not_13, stays}
use Rattle.script_reader.proofs.cut.without_return.Goals as goal

pub returns-then-last-eq13 : goal.returns-then-last-eq13
returns-then-last-eq13 c =
    let whole : c.args.line.now ≡ c.in-Some.front.now ++ c.in-Some.last.now ∷ [] = c.in-Some.ensures.cases.0 in
    sym (dropped c.in-Some.front.now c.in-Some.last.now (is_13 c.in-Some.last.now c.if-last-eq13.true)) ∙ ap without_return (sym whole)

pub returns-else-last-eq13 : goal.returns-else-last-eq13
returns-else-last-eq13 c =
    let whole : c.args.line.now ≡ c.in-Some.front.now ++ c.in-Some.last.now ∷ [] = c.in-Some.ensures.cases.0 in
    whole ∙ sym (stays c.in-Some.front.now c.in-Some.last.now (not_13 c.in-Some.last.now c.if-last-eq13.false)) ∙ ap without_return (sym whole)
