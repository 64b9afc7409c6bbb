use Rattle.std.proofs.Common.{◌≡◌, ◌∙◌, [], ◌∷◌, ◌++◌, ap}
use Rattle.std.specs.Prelude.{codes}
use Rattle.std.proofs.lemmas.Result.{on_ok_weaker}
use Rattle.script_texts.specs.Parts.{behind_blanks}
use Rattle.script_texts.proofs.LineLemmas.{after_word}
use Rattle.script_texts.proofs.texts.push_joined.Goals as goal

pub returns-clause-ok : goal.returns-clause-ok
returns-clause-ok c =
    let old = c.args.out.now.items in
    let begun = c.push_bytes.new.out.items in
    let whole = c.push_word.new.out.items in
    on_ok_weaker c.push_word.result
    (λ (last : whole ≡ begun ++ behind_blanks (c.as_slice.result.now ∷ [])).
    after_word old begun whole (codes "already-joined") (c.args.net.now ∷ []) c.in_ok-push_bytes.ensures.ok
    (last ∙ ap (λ name. begun ++ behind_blanks (name ∷ [])) c.as_slice.ensures.value))
    c.push_word.ensures.ok
