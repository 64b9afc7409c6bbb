use Rattle.std.proofs.Common.{◌∙◌, ap}
use Rattle.edif_spelling_spec.specs.Words.{integer}
use Rattle.edif_spelling_spec.proofs.ParseLemmas.{integer_from_parse}
use Rattle.script_words.proofs.AtomLemmas.{integer_found, no_integer, none_of_utf8}
use Rattle.script_words.proofs.atoms.find_integer.Goals as goal

pub returns-in-Ok : goal.returns-in-Ok
returns-in-Ok c =
    integer_found c.args.word.now c.ok.result (c.ok.ensures.value ∙ integer_from_parse c.in-Ok.text.now c.parse.result c.parse.ensures.value.0 ∙ ap integer c.in-Ok.ensures.cases.0)

pub returns-in-Err : goal.returns-in-Err
returns-in-Err c = no_integer c.args.word.now (none_of_utf8 c.args.word.now c.in-Err.ensures.cases.0)
