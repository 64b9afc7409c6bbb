use Rattle.std.proofs.Common.{◌≡◌, drop}
use Rattle.edif_nets.specs.Keys.{name_key}
use Rattle.edif_nets.proofs.differ.bytes_key.Given as goal

-- with the bytes that are left it is the number of the whole name
abbrev pub invariant-loop-byte : goal.invariant-loop-byte
invariant-loop-byte l = name_key l.key (drop l.byte-index l.bytes) ≡ name_key 0 l.bytes
