use Rattle.std.proofs.Common.{ap, ◌∙◌, false, get_or}
use Rattle.edif_lexer.proofs.WordTable.{table, word_table}
use Rattle.edif_lexer.proofs.words.is_word_byte.Goals as goal

pub returns : goal.returns
returns c = ap (λ i. get_or table i false) c.from.ensures ∙ word_table c.args.b c.ranges.b.fits
