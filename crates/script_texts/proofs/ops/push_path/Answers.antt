use Rattle.std.proofs.Common.{◌≡◌, ◌∙◌, [], ◌∷◌, ◌++◌, ap}
use Rattle.std.proofs.lemmas.Result.{on_ok_weaker}
use Rattle.script_texts.specs.Parts.{behind, behind_blanks}
use Rattle.script_texts.proofs.LineLemmas.{path_pushed}
use Rattle.script_texts.proofs.ops.push_path.Goals as goal

pub returns-in_ok-push_word-in-Some-clause-ok : goal.returns-in_ok-push_word-in-Some-clause-ok
returns-in_ok-push_word-in-Some-clause-ok c =
    let old = c.args.out.now.items in
    let begun = c.push_word.new.out.items in
    let whole = c.push_marked.new.out.items in
    let first = c.in-Some.first.now in
    let rest = c.in-Some.rest.now in
    on_ok_weaker c.push_marked.result
    (λ (last : whole ≡ begun ++ behind 47 rest).
    path_pushed old begun whole first c.args.path.now rest c.in-Some.ensures.cases.0
    (c.in_ok-push_word-in-Some.ensures.ok ∙ ap (λ name. old ++ behind_blanks (name ∷ [])) c.as_slice.ensures.value) last)
    c.push_marked.ensures.ok
