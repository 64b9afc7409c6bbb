use Rattle.std.proofs.Common.{Err}
use Rattle.edif_lexer.proofs.StepLemmas.{finishes}
use Rattle.edif_lexer.proofs.lexing.Lexer.finish_to.Goals as goal

pub returns-in-Err-clause-read : goal.returns-in-Err-clause-read
returns-in-Err-clause-read g c =
    let read = c.in-Err.ensures in (read.0, read.1, λ fed handed h. rw c.fail.ensures.value (finishes c.args.self.now fed handed read.0 (Err c.in-Err.error) read.2 h))
