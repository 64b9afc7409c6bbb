use Rattle.std.proofs.Common.{◌∙◌, ap}
use Rattle.std.proofs.lemmas.Str.{IsUtf8-from_ascii}
use Rattle.edif_spelling_spec.specs.Words.{integer}
use Rattle.edif_spelling_spec.proofs.ParseLemmas.{integer_from_parse, IsAscii-from_word}
use Rattle.edif_lexer.proofs.words.integer.Goals as goal

pub returns-in-Ok : goal.returns-in-Ok
returns-in-Ok c = c.ok.ensures.value ∙ integer_from_parse c.in-Ok.text.now c.parse.result c.parse.ensures.value.0 ∙ ap integer c.in-Ok.ensures.cases.0

pub returns-in-Err : goal.returns-in-Err
returns-in-Err c = absurd (c.in-Err.ensures.cases.0 (IsUtf8-from_ascii c.args.word.now (IsAscii-from_word c.args.word.now c.requires)))
