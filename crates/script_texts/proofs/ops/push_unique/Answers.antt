use Rattle.std.proofs.Common.{rules, OnOk, ◌≡◌, [], ◌∷◌, ◌++◌}
use Rattle.std.specs.Prelude.{codes}
use Rattle.std.proofs.lemmas.Result.{on_ok_weaker}
use Rattle.script_spec.specs.Lines.{path_piece}
use Rattle.script_spec.specs.Pieces.{piece_text}
use Rattle.script_texts.specs.Parts.{behind_blanks}
use Rattle.script_texts.proofs.LineLemmas.{then}
use Rattle.script_texts.proofs.ops.push_unique.Goals as goal

pub returns-clause-ok : goal.returns-clause-ok
returns-clause-ok c =
    let old = c.args.out.now.items in
    let begun = c.push_word.new.out.items in
    let whole = c.push_path.new.out.items in
    let path = piece_text (path_piece c.args.path.now) in
    let ended : OnOk c.push_path.result (whole ≡ begun ++ behind_blanks (path ∷ [])) = search rules in
    on_ok_weaker c.push_path.result
    (λ (last : whole ≡ begun ++ behind_blanks (path ∷ [])).
    then old begun whole (codes "unique-path" ∷ []) (path ∷ []) c.in_ok-push_word.ensures.ok last)
    ended
