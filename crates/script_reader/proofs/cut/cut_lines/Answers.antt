use Rattle.std.proofs.Common.{◌≡◌, ◌∙◌, ℕ, List, [], ◌∷◌, ◌++◌, map, ap, sym, Bor}
use Rattle.std.specs.List.{slice_split}
use Rattle.std.proofs.lemmas.List.{map-append}
use Rattle.script_spec.specs.ScriptText.{is_line_feed, lines_of_parts, without_return}
use Rattle.script_reader.specs.Parts.{last_line}
use Rattle.script_reader.proofs.CutLemmas.{lines_pushed}
use Rattle.script_reader.proofs.cut.cut_lines.Goals as goal

abbrev lent : Bor (List ℕ) → List ℕ
lent x = x.now

pub returns : goal.returns
returns c =
    let front = map lent c.in-Some.front.now in
    let last = lent c.in-Some.last.now in
    let parts : slice_split is_line_feed c.args.text.now ≡ front ++ last ∷ [] =
    sym c.in_ok-parts.ensures ∙ ap (map lent) (sym c.as_slice.ensures.value ∙ c.in-Some.ensures.cases.0) ∙ map-append lent c.in-Some.front.now (c.in-Some.last.now ∷ []) in
    c.in_ok-push_last.ensures
    ∙ ap (λ lines. lines ++ last_line last) (c.in_ok-push_lines.ensures ∙ ap (λ items. map lent items ++ map without_return front) c.new-lines.ensures.items)
    ∙ sym (lines_pushed front last)
    ∙ ap lines_of_parts (sym parts)
