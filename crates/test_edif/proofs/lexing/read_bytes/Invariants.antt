use Rattle.std.proofs.Common.{◌≡◌}
use Rattle.edif_lexer.specs.declared.lexing.State.TheVariants.{Running}
use Rattle.test_edif.proofs.lexing.read_bytes.Given as goal

abbrev pub invariant-loop-byte : goal.invariant-loop-byte
invariant-loop-byte l = l.lexer.state ≡ Running
