-- Names of letters, and of a letter and a number.
use Rattle.std.specs.Prelude.{ℕ, List, length, ◌&&◌, Bool, nat_lt}
use Rattle.std.specs.List.{list_all}
use Rattle.netlist_schema.specs.Ident.{is_identifier_byte}

-- at least one, each of which an identifier may have
abbrev pub are_letters : List ℕ → Bool
are_letters bytes = nat_lt 0 (length bytes) && list_all is_identifier_byte bytes
