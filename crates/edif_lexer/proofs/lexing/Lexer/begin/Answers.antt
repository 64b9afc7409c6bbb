use Rattle.std.proofs.Common.{◌≡◌, ◌∷◌, ◌++◌, [], arith, sym, ap, ◌∙◌, eqb, false}
use Rattle.edif_spelling_spec.specs.Bytes.{is_quote}
use Rattle.edif_lexer.specs.Steps.{Anything}
use Rattle.edif_lexer.specs.Reading.{is_pending}
use Rattle.edif_lexer.proofs.StepLemmas.{no_gain, moved, moved_quietly, continues_keep, continues_space, continues_left, continues_right, stops_other, begun_pending}
use Rattle.edif_lexer.proofs.lexing.Lexer.begin.Goals as goal

pub returns-in-40 : goal.returns-in-40
returns-in-40 g c =
    rw c.in-40.is (moved g.S.Tokens.took Anything c.args.self.now (40 ∷ []) c.hand_out.new.self _ _ c.args.out.now c.hand_out.new.out c.hand_out.result c.hand_out.ensures.ok c.hand_out.ensures.err c.hand_out.ensures.memory (continues_left c.args.self.now c.requires))

pub returns-in-41 : goal.returns-in-41
returns-in-41 g c =
    rw c.in-41.is (moved g.S.Tokens.took Anything c.args.self.now (41 ∷ []) c.hand_out-in-41.new.self _ _ c.args.out.now c.hand_out-in-41.new.out c.hand_out-in-41.result c.hand_out-in-41.ensures.ok c.hand_out-in-41.ensures.err c.hand_out-in-41.ensures.memory (continues_right c.args.self.now c.requires))

pub returns-in_default : goal.returns-in_default
returns-in_default g c =
    moved_quietly g.S.Tokens.took Anything c.args.self.now (c.args.byte ∷ []) c.pass.new.self _ c.args.out.now c.pass.result c.pass.ensures.ok c.pass.ensures.memory (continues_space c.args.self.now c.args.byte c.requires (sym c.is_ascii_whitespace.ensures.value ∙ c.if-is_ascii_whitespace.true))

pub returns-in_default-2 : goal.returns-in_default-2
returns-in_default-2 g c =
    moved_quietly g.S.Tokens.took Anything c.args.self.now (c.args.byte ∷ []) c.keep-in_default-2.new.self _ c.args.out.now c.keep-in_default-2.result c.keep-in_default-2.ensures.ok c.keep-in_default-2.ensures.memory (continues_keep c.args.self.now c.args.byte (ap (λ p. is_pending (p ++ c.args.byte ∷ [])) c.requires ∙ begun_pending c.args.byte (sym c.is_word_byte.ensures ∙ c.if-is_word_byte.true)))

pub returns-in_default-3 : goal.returns-in_default-3
returns-in_default-3 g c =
    let left : eqb c.args.byte 40 ≡ false = grind arith in
    let right : eqb c.args.byte 41 ≡ false = grind arith in
    let quote : is_quote c.args.byte ≡ false = grind arith in
    ([], no_gain g.S.Tokens.took c.args.out.now, rw (ap (λ r. r.start) c.self.view_is) (stops_other c.args.self.now c.args.byte c.requires (sym c.is_ascii_whitespace.ensures.value ∙ c.if-is_ascii_whitespace.false) left right quote (sym c.is_word_byte.ensures ∙ c.if-is_word_byte.false)))
