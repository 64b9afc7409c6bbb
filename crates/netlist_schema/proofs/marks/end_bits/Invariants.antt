use Rattle.std.proofs.Common.{◌≡◌, drop}
use Rattle.netlist_schema.specs.Marks.{end_bits}
use Rattle.netlist_schema.proofs.marks.end_bits.Given as goal

-- the ends that are left make the rest
abbrev pub invariant-loop-end : goal.invariant-loop-end
invariant-loop-end l = end_bits l.bits (drop l.end-index l.ends) ≡ end_bits 0 l.ends
