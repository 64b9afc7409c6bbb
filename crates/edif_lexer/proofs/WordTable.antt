-- A table of the bytes that a word may hold.
use Rattle.std.proofs.Common.{◌≡◌, ℕ, ◌<◌, List, ◌++◌, Bool, false, map, get_or, refl, ap, ◌∙◌}
use Rattle.netlist_schema.proofs.ByteTable.{from, no, told_first, yes}
use Rattle.edif_spelling_spec.specs.Bytes.{is_word_byte}

abbrev pub table : List Bool
table = no 38 ++ yes 1 ++ no 4 ++ yes 1 ++ no 1 ++ yes 1 ++ no 2 ++ yes 10 ++ no 7 ++ yes 26 ++ no 4 ++ yes 1 ++ no 1 ++ yes 26 ++ no 133

is_table : table ≡ map is_word_byte (from 0 256)
is_table = refl

pub word_table : (b : ℕ) → b < 256 → get_or table b false ≡ is_word_byte b
word_table b l = ap (λ t. get_or t b false) is_table ∙ told_first is_word_byte 256 b false l
