use Rattle.std.proofs.Common.{◌≡◌, ◌∙◌, [], ◌∷◌, ◌++◌, ap, map}
use Rattle.std.specs.Prelude.{codes}
use Rattle.std.proofs.lemmas.Result.{on_ok_weaker}
use Rattle.edif_spec.specs.PropertyText.{property_text}
use Rattle.flat_lines_spec.specs.Lines.{cell_text, lib_text, path_text}
use Rattle.flat_report.specs.Parts.{behind_blanks}
use Rattle.flat_items.specs.Lent.{properties_of}
use Rattle.flat_report.proofs.LineLemmas.{one_word, more_words}
use Rattle.flat_report.proofs.items.push_enter.Goals as goal

pub returns-clause-ok : goal.returns-clause-ok
returns-clause-ok g c =
    let d = g.S.Shown.design c.args.design.now in
    let old = c.args.out.now.items in
    let begun = c.extend_from_slice.new.self.items in
    let placed = c.push_place.new.out.items in
    let named = c.push_cell.new.out.items in
    let whole = c.push_lent.new.out.items in
    let path = path_text d c.args.path.now in
    let library = lib_text d c.args.cell in
    let cell = cell_text d c.args.cell in
    let place = more_words old begun placed (codes "inst") [] (path ∷ []) c.in_ok-extend_from_slice.ensures.items (c.in_ok-push_place.ensures.text ∙ ap (λ text. begun ++ text) (one_word path)) in
    let names = more_words old placed named (codes "inst") (path ∷ []) (library ∷ cell ∷ []) place c.in_ok-push_cell.ensures.ok in
    let last = map property_text (properties_of c.args.properties) in
    on_ok_weaker c.push_lent.result
    (λ (is : whole ≡ named ++ behind_blanks last). more_words old named whole (codes "inst") (path ∷ library ∷ cell ∷ []) last names is)
    c.push_lent.ensures.ok
