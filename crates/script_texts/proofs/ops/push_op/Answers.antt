use Rattle.std.proofs.Common.{◌≡◌, ◌∙◌, [], ◌∷◌, ◌++◌, ap, sym}
use Rattle.std.specs.Prelude.{codes}
use Rattle.std.proofs.lemmas.Result.{on_ok_weaker}
use Rattle.script_texts.specs.Parts.{behind_blanks, op_words}
use Rattle.script_texts.proofs.ops.push_op.Goals as goal

pub returns-in-DropInst-clause-ok : goal.returns-in-DropInst-clause-ok
returns-in-DropInst-clause-ok c =
    let old = c.args.out.now.items in
    let whole = c.push_in_cell-in-DropInst.new.out.items in
    on_ok_weaker c.push_in_cell-in-DropInst.result
    (λ (last : whole ≡ old ++ behind_blanks (codes "drop-inst" ∷ c.in-DropInst.cell.lib ∷ c.in-DropInst.cell.cell ∷ c.in-DropInst.inst ∷ [])).
    last ∙ ap (λ op. old ++ behind_blanks (op_words op)) (sym c.in-DropInst.is))
    c.push_in_cell-in-DropInst.ensures.ok
