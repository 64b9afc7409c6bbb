use Rattle.std.proofs.Common.{◌∷◌, ◌++◌, [], List, refl, sym, subst}
use Rattle.edif_spelling_spec.specs.Bytes.{is_word_byte, EndsRun}
use Rattle.edif_spelling_spec.specs.TreeFaults.{token_at}
use Rattle.edif_spelling_spec.specs.declared.token.Token.{Token}
use Rattle.edif_spelling_spec.specs.declared.token.TokenKind.TheVariants.{Word}
use Rattle.edif_lexer.specs.Reading.{Reading}
use Rattle.edif_lexer.specs.Steps.{Anything, Continues}
use Rattle.edif_lexer.proofs.StepLemmas.{gains_then, continues_name, advances_then}
use Rattle.edif_lexer.proofs.lexing.Lexer.name_before.Goals as goal

pub returns : goal.returns
returns g c =
    let ok = c.in_ok-hand_out.ensures.ok in
    let next = c.begin.ensures in
    let first : List Token = token_at (Word c.args.name.now) c.args.self.now.start ∷ [] in
    let C : Reading → Type 0 = λ x. Continues (EndsRun is_word_byte) c.args.self.now c.args.name.now x first in
    let name = subst C (sym ok.1) (continues_name c.args.self.now c.args.name.now _ refl c.requires.between c.requires.spells) in (
      first ++ next.0,
      gains_then g.S.Tokens.took c.args.out.now c.hand_out.new.out c.begin.new.out first next.0 ok.0 next.1,
      advances_then (EndsRun is_word_byte) Anything c.args.self.now c.hand_out.new.self c.begin.new.self c.args.name.now (c.args.byte ∷ []) first next.0 c.begin.result name (λ more q. c.requires.ends) next.2,
    )
