use Rattle.std.proofs.Common.{◌≡◌, ◌++◌, drop}
use Rattle.std.specs.List.{flat_map}
use Rattle.ungroup_plans.specs.Bits.{bits_of}
use Rattle.ungroup_plans.proofs.bits.add_bits.Given as goal

abbrev pub invariant-loop-end : goal.invariant-loop-end
invariant-loop-end l =
    l.bits.items ++ flat_map (bits_of l.inst l.net) (drop l.end-index l.ends) ≡ l.initial.bits.items ++ flat_map (bits_of l.inst l.net) l.ends
