use Rattle.std.proofs.Common.{◌≡◌, ◌+◌, ◌∷◌, ◌++◌, [], take, length, sym, subst}
use Rattle.std.proofs.lemmas.Result.{err_from_is_err_and}
use Rattle.std.proofs.lemmas.List.{length-take-le}
use Rattle.edif_lexer.specs.Reading.{Reading}
use Rattle.edif_lexer.specs.Steps.{Anything, Continues}
use Rattle.edif_lexer.proofs.StepLemmas.{no_gain, continues_spaces, more_stops, stops_in_front}
use Rattle.edif_lexer.proofs.lexing.Lexer.advance.Goals as goal

pub returns-then-passed-gt0-clause-read : goal.returns-then-passed-gt0-clause-read
returns-then-passed-gt0-clause-read g c =
    let front = take c.passed-passed.result c.args.rest.now in
    let C : Reading → Type 0 = λ x. Continues Anything c.args.self.now front x [] in
    let size : c.passed-passed.result ≡ length front = sym (length-take-le c.passed-passed.result c.args.rest.now c.passed-passed.ensures.within) in
    ([], no_gain g.S.Tokens.took c.args.out.now, subst C (sym c.in_ok-pass.ensures.ok) (continues_spaces c.args.self.now front c.passed-passed.result size (c.passed-passed.ensures.between c.if-passed-gt0.true) c.passed-passed.ensures.passed))

pub returns-in_err-name_before-clause-read : goal.returns-in_err-name_before-clause-read
returns-in_err-name_before-clause-read g c =
    let next = c.in_err-name_before.ensures in
    let p = err_from_is_err_and c.from_residual-in_err-name_before.result c.from_residual-in_err-name_before.ensures.1 in
    (next.0, next.1, rw (p.1, p.2) (more_stops c.args.self.now c.args.rest.now c.whole_name-name.result next.0 c.in_err-name_before.field-0.0 (c.whole_name-name.ensures.within c.if-name-gt0.true) next.2))

pub returns-in_err-plain_string-clause-read : goal.returns-in_err-plain_string-clause-read
returns-in_err-plain_string-clause-read g c =
    let text = c.in-Some.text.now in
    let next = c.in_err-plain_string.ensures in
    let p = err_from_is_err_and c.from_residual-in_err-plain_string.result c.from_residual-in_err-plain_string.ensures.1 in
    (next.0, next.1, rw (p.1, p.2) (stops_in_front c.args.self.now c.args.rest.now (34 ∷ (text ++ 34 ∷ [])) (length text + 2) next.0 c.in_err-plain_string.field-0.0 c.in-Some.ensures.quoted.front next.2))
