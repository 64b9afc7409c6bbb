use Rattle.std.proofs.Common.{◌≡◌, [], ◌∷◌, ◌++◌, map}
use Rattle.std.specs.Prelude.{codes}
use Rattle.std.proofs.lemmas.Result.{on_ok_weaker}
use Rattle.edif_spec.specs.PropertyText.{property_text}
use Rattle.script_texts.specs.Parts.{behind_blanks}
use Rattle.script_texts.proofs.LineLemmas.{after_word, then}
use Rattle.script_texts.proofs.texts.push_inst.Goals as goal

pub returns-clause-ok : goal.returns-clause-ok
returns-clause-ok c =
    let old = c.args.out.now.items in
    let begun = c.push_bytes.new.out.items in
    let named = c.push_cell.new.out.items in
    let whole = c.push_shown.new.out.items in
    let cell = c.args.of.now.lib ∷ c.args.of.now.cell ∷ [] in
    let properties = map property_text c.args.properties.now in
    on_ok_weaker c.push_shown.result
    (λ (last : whole ≡ named ++ behind_blanks properties).
    after_word old begun whole (codes "inst") (cell ++ properties) c.in_ok-push_bytes.ensures.ok
    (then begun named whole cell properties c.in_ok-push_cell.ensures.ok last))
    c.push_shown.ensures.ok
