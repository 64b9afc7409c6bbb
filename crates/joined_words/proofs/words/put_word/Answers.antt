use Rattle.std.proofs.Common.{rules, ◌+◌, ◌++◌, ◌∷◌, [], length, ap, ◌∙◌, append_assoc, take}
use Rattle.std.proofs.lemmas.List.{take_more_set}
use Rattle.joined_words.proofs.words.put_word.Goals as goal

pub returns-clause-text : goal.returns-clause-text
returns-clause-text c =
    let end = c.args.at + length c.args.word.now in
    take_more_set _ end c.args.byte (search rules)
    ∙ (ap (λ front. front ++ c.args.byte ∷ []) c.put_bytes.ensures.text
    ∙ append_assoc (take c.args.at c.args.line.now) c.args.word.now (c.args.byte ∷ []))
