use Rattle.std.proofs.Common.{rules, ◌≡◌, ◌∙◌, true, false, [], ◌∷◌, ◌++◌, ap, sym}
use Rattle.script_spec.specs.ScriptText.{trimmed}
use Rattle.script_spec.proofs.Words.{trimmed_end}
use Rattle.script_reader.proofs.CutLemmas.{blank_end}
use Rattle.script_reader.proofs.cut.trimmed.Goals as goal

pub returns-then-not-is_blank : goal.returns-then-not-is_blank
returns-then-not-is_blank c =
    let front = c.in-Some.front.now in
    let last = c.in-Some.last.now in
    let whole : c.loop-last.left.now ≡ front ++ last ∷ [] = c.in-Some.ensures.cases.0 in
    let no : c.is_blank.result ≡ false = search rules in
    whole ∙ sym (trimmed_end front last (sym c.is_blank.ensures ∙ no)) ∙ ap trimmed (sym whole) ∙ c.loop-last.invariant

pub loop-last-preserved : goal.loop-last-preserved
loop-last-preserved c =
    let front = c.in-Some.front.now in
    let last = c.in-Some.last.now in
    let whole : c.loop-last.left.now ≡ front ++ last ∷ [] = c.in-Some.ensures.cases.0 in
    let yes : c.is_blank.result ≡ true = search rules in
    sym (blank_end front last (sym c.is_blank.ensures ∙ yes)) ∙ ap trimmed (sym whole) ∙ c.loop-last.invariant
