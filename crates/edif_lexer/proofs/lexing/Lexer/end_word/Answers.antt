use Rattle.std.proofs.Common.{◌≡◌, ◌+◌, ◌∷◌, ℕ, [], length, Ok, Err, sym, ap, ◌∙◌, subst}
use Rattle.edif_spelling_spec.specs.Bytes.{is_word_byte, EndsRun}
use Rattle.edif_spelling_spec.specs.Lent.{Gains, kind_of}
use Rattle.edif_spelling_spec.specs.TreeFaults.{token_at}
use Rattle.edif_spelling_spec.specs.Words.{word_kind}
use Rattle.edif_lexer.specs.Reading.{Reading}
use Rattle.edif_lexer.specs.Steps.{Continues}
use Rattle.edif_lexer.proofs.StepLemmas.{no_gain, continues_word, stops_word}
use Rattle.edif_lexer.proofs.lexing.Lexer.end_word.Goals as goal

pub returns-in-Err-clause-read : goal.returns-in-Err-clause-read
returns-in-Err-clause-read g c =
    let kind : word_kind c.args.self.now.pending ≡ Err c.in-Err.kind = ap word_kind (sym (c.deref.ensures.value ∙ ap (λ r. r.pending) c.self.view_is)) ∙ c.in-Err.ensures.err in
    ([], no_gain g.S.Tokens.took c.args.out.now, rw (ap (λ r. r.start) c.self.view_is) (stops_word c.args.self.now c.in-Err.kind c.requires.begun c.requires.word kind))

pub returns-clause-read : goal.returns-clause-read
returns-clause-read g c =
    let same : c.deref.result.now ≡ c.args.self.now.pending = c.deref.ensures.value ∙ ap (λ r. r.pending) c.self.view_is in
    let kind : word_kind c.args.self.now.pending ≡ Ok (kind_of c.in-Ok.kind) = ap word_kind (sym same) ∙ c.in-Ok.ensures.ok.0 in
    let size : c.len.result ≡ length c.args.self.now.pending = c.len.ensures ∙ sym c.deref.ensures.len ∙ ap length same in
    let G : ℕ → Type 0 = λ n. Gains g.S.Tokens.took c.args.out.now c.take.new.self (token_at (kind_of c.in-Ok.kind) n ∷ []) in
    let C : Reading → Type 0 = λ x. Continues (EndsRun is_word_byte) c.args.self.now [] x (token_at (kind_of c.in-Ok.kind) c.args.self.now.start ∷ []) in
    let to : c.pass_to.new.self ≡ record c.args.self.now { start = c.args.self.now.start + c.len.result; pending = [] } = c.pass_to.ensures ∙ ap (λ n. record c.args.self.now { start = n; pending = [] }) c.in_ok-place.ensures.ok in (
      token_at (kind_of c.in-Ok.kind) c.args.self.now.start ∷ [],
      subst G (ap (λ r. r.start) c.self.view_is) c.in_ok-take-in-Ok.ensures.ok,
      subst C (sym to) (continues_word c.args.self.now (kind_of c.in-Ok.kind) c.len.result size c.requires.begun c.requires.word kind),
    )
