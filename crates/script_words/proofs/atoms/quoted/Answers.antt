use Rattle.script_words.proofs.AtomLemmas.{no_string, spells_string}
use Rattle.script_words.proofs.atoms.quoted.Goals as goal

pub returns-in-Ok-clause-spelled : goal.returns-in-Ok-clause-spelled
returns-in-Ok-clause-spelled c =
    let read = rw c.in-Ok.is at c.in_ok-text.ensures in
    spells_string c.args.word.now c.in-Some.body.now c.in-Ok.text c.in-Some.ensures read.0 read.1

pub returns-in-Err-clause-spelled : goal.returns-in-Err-clause-spelled
returns-in-Err-clause-spelled c b text s =
    let fault = rw c.in-Err.is at c.in_ok-text.ensures in
    no_string c.args.word.now c.in-Some.body.now c.in-Err.field-0 c.in-Some.ensures fault text s
