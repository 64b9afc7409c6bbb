use Rattle.std.proofs.Common.{◌≡◌, take, true}
use Rattle.std.specs.List.{list_all}
use Rattle.netlist_schema.specs.Ident.{is_identifier_byte}
use Rattle.edif_lexer.proofs.runs.few_names.Given as goal

abbrev pub invariant-loop-i : goal.invariant-loop-i
invariant-loop-i l = list_all is_identifier_byte (take l.i l.bytes) ≡ true
