use Rattle.std.proofs.Common.{get_or, refl}
use Rattle.std.proofs.lemmas.Result.{err_from_is_err_and}
use Rattle.edif_lexer.proofs.StepLemmas.{front_stops}
use Rattle.edif_lexer.proofs.lexing.Lexer.first_byte.Goals as goal

pub returns-in_err-begin-clause-read : goal.returns-in_err-begin-clause-read
returns-in_err-begin-clause-read g c =
    let next = c.in_err-begin.ensures in
    let p = err_from_is_err_and c.from_residual.result c.from_residual.ensures.1 in
    (next.0, next.1, rw (p.1, p.2) (front_stops c.args.self.now c.args.rest.now (get_or c.args.rest.now 0 0) next.0 c.in_err-begin.field-0.0 c.requires.some refl next.2))
