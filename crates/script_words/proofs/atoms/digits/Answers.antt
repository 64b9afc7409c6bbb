use Rattle.script_words.proofs.AtomLemmas.{numeral_utf8}
use Rattle.script_words.proofs.atoms.digits.Goals as goal

pub returns-in-Err : goal.returns-in-Err
returns-in-Err c h = c.in-Err.ensures.cases.0 (numeral_utf8 c.args.word.now h.0)
