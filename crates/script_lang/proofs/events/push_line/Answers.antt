use Rattle.std.proofs.Common.{◌∙◌, [], ◌∷◌, ◌++◌, ap, append_assoc}
use Rattle.std.specs.Fmt.{decimal}
use Rattle.flat_lines_spec.specs.Lines.{spaced}
use Rattle.script_texts.proofs.LineLemmas.{after_word}
use Rattle.script_lang.specs.Parts.{event_words}
use Rattle.script_lang.proofs.events.push_line.Goals as goal

pub returns-clause-ok : goal.returns-clause-ok
returns-clause-ok g c =
    let old = c.args.out.now.items in
    let begun = c.push_digits.new.out.items in
    let written = c.push_words.new.out.items in
    let words = event_words (g.S.Shown.design c.args.design.now) c.args.event.now in
    let number = decimal c.args.number in
    c.in_ok-push.ensures.items
    ∙ ap (λ text. text ++ 10 ∷ []) (after_word old begun written number words c.in_ok-push_digits.ensures.ok c.in_ok-push_words.ensures.ok)
    ∙ append_assoc old (spaced (number ∷ words)) (10 ∷ [])
