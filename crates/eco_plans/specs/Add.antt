-- Adding a cell.
use Rattle.std.specs.Prelude.{◌≡◌, Option, Some, None, Result, Ok, Err}
use Rattle.netlist_schema.specs.Types.{CellBody}
use Rattle.edit_rules_spec.specs.declared.reply.Reply.{Reply}

-- the new cell, where nothing refuses it, or else the refusal
abbrev pub IsCellPlanned : Option Reply → CellBody → Result CellBody Reply → Type 0
IsCellPlanned refusal new (Ok made) = (refusal ≡ None) × (made ≡ new)
IsCellPlanned refusal new (Err reply) = refusal ≡ Some reply
