use Rattle.std.proofs.Common.{◌≡◌, ◌*◌, take, true}
use Rattle.std.specs.List.{list_all}
use Rattle.netlist_schema.specs.Ident.{is_identifier_byte}
use Rattle.edif_lexer.proofs.runs.name_bytes.Given as goal

abbrev pub invariant-loop-block : goal.invariant-loop-block
invariant-loop-block l = list_all is_identifier_byte (take (l.block * 16) l.bytes) ≡ true
