use Rattle.std.proofs.Common.{ap, ◌∙◌, false, get_or}
use Rattle.netlist_schema.proofs.ByteTable.{identifier_table, identifier_told}
use Rattle.edif_lexer.proofs.words.is_name_byte.Goals as goal

pub returns : goal.returns
returns c = ap (λ i. get_or identifier_table i false) c.from.ensures ∙ identifier_told c.args.b c.ranges.b.fits
