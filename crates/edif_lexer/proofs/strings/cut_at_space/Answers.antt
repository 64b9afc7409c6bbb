use Rattle.edif_spelling_spec.specs.Bytes.{is_space}
use Rattle.std.proofs.Common.{sym}
use Rattle.edif_lexer.proofs.CutLemmas.{cut_some, cut_none}
use Rattle.edif_lexer.proofs.strings.cut_at_space.Goals as goal

pub returns-in-Some-clause-parts : goal.returns-in-Some-clause-parts
returns-in-Some-clause-parts c = cut_some is_space c.args.bytes.now c.in-Some.n (sym c.in-Some.ensures)

pub returns-in-None-clause-parts : goal.returns-in-None-clause-parts
returns-in-None-clause-parts c = cut_none is_space c.args.bytes.now (sym c.in-None.ensures)
