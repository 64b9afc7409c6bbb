use Rattle.std.proofs.Common.{◌≡◌, ◌∙◌, [], ◌∷◌, ◌++◌, ap, map}
use Rattle.std.specs.Prelude.{codes}
use Rattle.std.proofs.lemmas.Result.{on_ok_weaker}
use Rattle.script_spec.specs.Lines.{leaf_word, port_piece}
use Rattle.script_spec.specs.Pieces.{piece_text}
use Rattle.script_texts.specs.Parts.{behind_blanks}
use Rattle.script_texts.proofs.LineLemmas.{then}
use Rattle.script_texts.proofs.ops.push_new_cell.Goals as goal

pub returns-clause-ok : goal.returns-clause-ok
returns-clause-ok c =
    let old = c.args.out.now.items in
    let begun = c.push_of_cell.new.out.items in
    let marked = c.push_word.new.out.items in
    let whole = c.push_ports.new.out.items in
    let lib = c.args.cell.now.lib in
    let cell = c.args.cell.now.cell in
    let leaf = leaf_word c.args.leaf in
    let ports = map piece_text (map port_piece c.args.ports.now) in
    let word : marked ≡ begun ++ behind_blanks (leaf ∷ []) = c.in_ok-push_word.ensures.ok ∙ ap (λ w. begun ++ behind_blanks (w ∷ [])) c.leaf_word.ensures in
    on_ok_weaker c.push_ports.result
    (λ (last : whole ≡ marked ++ behind_blanks ports).
    then old marked whole (codes "add-cell" ∷ lib ∷ cell ∷ leaf ∷ []) ports
    (then old begun marked (codes "add-cell" ∷ lib ∷ cell ∷ []) (leaf ∷ []) c.in_ok-push_of_cell.ensures.ok word) last)
    c.push_ports.ensures.ok
