use Rattle.std.proofs.Common.{◌∙◌}
use Rattle.edif_lexer.proofs.CodeLemmas.{code_from_parse, no_code_from_utf8}
use Rattle.edif_lexer.proofs.strings.code.Goals as goal

pub returns-in-Ok : goal.returns-in-Ok
returns-in-Ok c =
    rw c.in-Ok.ensures.cases.0 at (c.ok.ensures.value ∙ code_from_parse c.in-Ok.digits.now c.parse.result c.parse.ensures.value.0 (rw c.in-Ok.ensures.cases.0 c.if-text-eq43.false) (rw c.in-Ok.ensures.cases.0 c.requires))

pub returns-in-Err : goal.returns-in-Err
returns-in-Err c = no_code_from_utf8 c.args.text.now c.in-Err.ensures.cases.0
