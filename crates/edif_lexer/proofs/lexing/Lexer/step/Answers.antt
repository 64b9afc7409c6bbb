use Rattle.std.proofs.Common.{◌≡◌, ◌∷◌, ◌++◌, [], Some, sym, ap, ◌∙◌}
use Rattle.std.specs.Prelude.{slice_get}
use Rattle.std.proofs.lemmas.Result.{err_from_is_err_and}
use Rattle.edif_spelling_spec.specs.Bytes.{is_word_byte, EndsRun}
use Rattle.edif_lexer.specs.Reading.{is_pending}
use Rattle.edif_lexer.specs.Steps.{Anything}
use Rattle.edif_lexer.proofs.StepLemmas.{gains_then, begun_word, word_keeps, string_keeps, stops_before, advances_then, moved_quietly, continues_keep}
use Rattle.edif_lexer.proofs.lexing.Lexer.step.Goals as goal

pub keep-requires-then-is_word_byte : goal.keep-requires-then-is_word_byte
keep-requires-then-is_word_byte g c =
    let first : slice_get c.args.self.now.pending 0 ≡ Some c.in-Some.field-0 =
    ap (λ l. slice_get l 0) (sym (c.deref.ensures.value ∙ ap (λ r. r.pending) c.self.view_is)) ∙ sym c.first.ensures.value ∙ sym c.in-Some.ensures in
    word_keeps c.args.self.now.pending c.args.byte
    (begun_word c.args.self.now.pending c.in-Some.field-0 (ap (λ r. is_pending r.pending) (sym c.self.view_is) ∙ c.self.invariant) first c.in-Some.field-0-test.1)
    (sym c.is_word_byte.ensures ∙ c.if-is_word_byte.true)

pub returns-in_err-end_word-in-Some : goal.returns-in_err-end_word-in-Some
returns-in_err-end_word-in-Some g c =
    let read = c.in_err-end_word-in-Some.ensures.read in
    let p = err_from_is_err_and c.from_residual.result c.from_residual.ensures.1 in
    (read.0, read.1, rw (p.1, p.2) (stops_before (EndsRun is_word_byte) Anything c.args.self.now (c.args.byte ∷ []) read.0 c.in_err-end_word-in-Some.field-0.0 (λ more q. sym c.is_word_byte.ensures ∙ c.if-is_word_byte.false) read.2))

pub returns-in_ok-end_word-in-Some : goal.returns-in_ok-end_word-in-Some
returns-in_ok-end_word-in-Some g c =
    let read = c.in_ok-end_word-in-Some.ensures.read in
    let next = c.begin-else-is_word_byte.ensures in (
      read.0 ++ next.0,
      gains_then g.S.Tokens.took c.args.out.now c.end_word.new.out c.begin-else-is_word_byte.new.out read.0 next.0 read.1 next.1,
      advances_then (EndsRun is_word_byte) Anything c.args.self.now c.end_word.new.self c.begin-else-is_word_byte.new.self [] (c.args.byte ∷ []) read.0 next.0 c.begin-else-is_word_byte.result read.2 (λ more q. sym c.is_word_byte.ensures ∙ c.if-is_word_byte.false) next.2,
    )

pub returns-then-is_word_byte : goal.returns-then-is_word_byte
returns-then-is_word_byte g c =
    let first : slice_get c.args.self.now.pending 0 ≡ Some c.in-Some.field-0 =
    ap (λ l. slice_get l 0) (sym (c.deref.ensures.value ∙ ap (λ r. r.pending) c.self.view_is)) ∙ sym c.first.ensures.value ∙ sym c.in-Some.ensures in
    moved_quietly g.S.Tokens.took Anything c.args.self.now (c.args.byte ∷ []) c.keep-then-is_word_byte.new.self _ c.args.out.now c.keep-then-is_word_byte.result c.keep-then-is_word_byte.ensures.ok c.keep-then-is_word_byte.ensures.memory
    (continues_keep c.args.self.now c.args.byte (word_keeps c.args.self.now.pending c.args.byte
    (begun_word c.args.self.now.pending c.in-Some.field-0 (ap (λ r. is_pending r.pending) (sym c.self.view_is) ∙ c.self.invariant) first c.in-Some.field-0-test.1)
    (sym c.is_word_byte.ensures ∙ c.if-is_word_byte.true)))

pub returns-else-byte-eq34 : goal.returns-else-byte-eq34
returns-else-byte-eq34 g c =
    let first : slice_get c.args.self.now.pending 0 ≡ Some 34 =
    ap (λ l. slice_get l 0) (sym (c.deref.ensures.value ∙ ap (λ r. r.pending) c.self.view_is)) ∙ sym c.first.ensures.value ∙ sym c.in-Some-eq34.ensures ∙ ap Some c.in-Some-eq34.field-0-test in
    moved_quietly g.S.Tokens.took Anything c.args.self.now (c.args.byte ∷ []) c.keep.new.self _ c.args.out.now c.keep.result c.keep.ensures.ok c.keep.ensures.memory
    (continues_keep c.args.self.now c.args.byte (string_keeps c.args.self.now.pending c.args.byte (ap (λ r. is_pending r.pending) (sym c.self.view_is) ∙ c.self.invariant) first c.if-byte-eq34.false))
