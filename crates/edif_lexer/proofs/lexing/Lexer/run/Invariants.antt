use Rattle.std.proofs.Common.{◌≤◌, ◌-◌, List, length, take}
use Rattle.edif_lexer.specs.Steps.{Anything, Continues}
use Rattle.edif_spelling_spec.specs.Lent.{Gains}
use Rattle.edif_spelling_spec.specs.declared.token.Token.{Token}
use Rattle.edif_lexer.proofs.lexing.Lexer.run.Given as goal

abbrev pub invariant-bytes : goal.invariant-bytes
invariant-bytes g l = (l.read ≤ length l.piece) × ((gained : List Token) × Gains g.S.Tokens.took l.initial.out l.out gained × Continues Anything l.initial.self (take l.read l.piece) l.self gained)

abbrev pub decreases-bytes : goal.decreases-bytes
decreases-bytes g l = length l.piece - l.read
