use Rattle.std.proofs.Common.{◌∙◌, ◌++◌, not, ap, sym}
use Rattle.std.specs.Prelude.{filter}
use Rattle.edif_spelling_spec.specs.Names.{is_empty}
use Rattle.script_words.specs.Reading.{lent}
use Rattle.script_reader.proofs.WordLemmas.{words_without}
use Rattle.script_reader.proofs.line.line_words.Goals as goal

pub returns-in_ok-push_filled-in-None : goal.returns-in_ok-push_filled-in-None
returns-in_ok-push_filled-in-None c =
    c.in_ok-push_filled-in-None.ensures
    ∙ ap (λ items. lent items ++ filter (λ word. not (is_empty word)) (lent c.as_slice.result.now)) c.new-found.ensures.items
    ∙ ap (filter (λ word. not (is_empty word))) (ap lent c.as_slice.ensures.value ∙ c.in_ok-parts-in-None.ensures)
    ∙ words_without c.args.line.now (sym c.in-None.ensures)
