use Rattle.std.proofs.Common.{◌∷◌, ◌++◌, [], refl}
use Rattle.edif_lexer.specs.Steps.{Anything}
use Rattle.edif_lexer.proofs.StepLemmas.{moved, continues_plain}
use Rattle.edif_lexer.proofs.lexing.Lexer.plain_string.Goals as goal

pub returns : goal.returns
returns g c =
    moved g.S.Tokens.took Anything c.args.self.now (34 ∷ (c.args.text.now ++ 34 ∷ [])) c.hand_out.new.self _ _ c.args.out.now c.hand_out.new.out c.hand_out.result c.hand_out.ensures.ok c.hand_out.ensures.err c.hand_out.ensures.memory
    (continues_plain c.args.self.now c.args.text.now _ refl c.requires.between c.requires.plain)
