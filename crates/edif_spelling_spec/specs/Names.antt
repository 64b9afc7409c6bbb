-- Identifiers, as a test.
use Rattle.std.specs.Prelude.{ℕ, Bool, not, ◌&&◌, ◌==◌, List, length}
use Rattle.std.specs.List.{list_all}
use Rattle.netlist_schema.specs.Ident.{is_identifier_byte}

-- no bytes
abbrev pub is_empty : List ℕ → Bool
is_empty bytes = length bytes == 0

-- one byte or more, each a letter, a digit or `_`
abbrev pub is_name : List ℕ → Bool
is_name bytes = not (is_empty bytes) && list_all is_identifier_byte bytes
