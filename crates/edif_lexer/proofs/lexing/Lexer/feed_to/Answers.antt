use Rattle.std.proofs.Common.{◌≡◌, true, Ok, Err, sym, ap, ◌∙◌}
use Rattle.edif_lexer.specs.Reading.{is_pending}
use Rattle.edif_lexer.proofs.StepLemmas.{feeds, is_running}
use Rattle.edif_lexer.proofs.lexing.Lexer.feed_to.Goals as goal

pub returns-in-Ok-clause-read : goal.returns-in-Ok-clause-read
returns-in-Ok-clause-read g c =
    let read = c.in-Ok.ensures in
    let pending : is_pending c.args.self.now.pending ≡ true = ap (λ r. is_pending r.pending) (sym c.self.view_is) ∙ c.self.invariant in
    (read.0, read.1, λ fed handed h. feeds c.args.self.now c.run.new.self fed c.args.piece.now handed read.0 (Ok tt) pending read.2 h)

pub returns-in-Err-clause-read : goal.returns-in-Err-clause-read
returns-in-Err-clause-read g c =
    let read = c.in-Err.ensures in
    let pending : is_pending c.args.self.now.pending ≡ true = ap (λ r. is_pending r.pending) (sym c.self.view_is) ∙ c.self.invariant in
    (read.0, read.1, λ fed handed h. rw c.fail.ensures.value (feeds c.args.self.now c.fail.new.self fed c.args.piece.now handed read.0 (Err c.in-Err.error) pending read.2 h))

pub returns-in-Ok-clause-ok : goal.returns-in-Ok-clause-ok
returns-in-Ok-clause-ok g c =
    c.in-Ok.ensures.2.state ∙ is_running c.args.self.now.state c.requires (λ error e. c.in_default.not-Failed error (ap (λ r. r.state) c.self.view_is ∙ e))
