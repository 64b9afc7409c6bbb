use Rattle.std.proofs.Common.{◌≡◌, drop, map}
use Rattle.std.specs.Char.{to_ascii_lowercase}
use Rattle.netlist_schema.specs.Marks.{hash_from}
use Rattle.netlist_schema.proofs.marks.hash_of.Given as goal

-- the bytes that are left make the rest
abbrev pub invariant-loop-byte : goal.invariant-loop-byte
invariant-loop-byte l = hash_from l.hash (map to_ascii_lowercase (drop l.byte-index l.name)) ≡ hash_from 0 (map to_ascii_lowercase l.name)
