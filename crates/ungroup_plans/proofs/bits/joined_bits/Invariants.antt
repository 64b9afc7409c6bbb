use Rattle.std.proofs.Common.{◌≡◌, ◌++◌, drop}
use Rattle.ungroup_plans.specs.Bits.{bits_from}
use Rattle.ungroup_plans.proofs.bits.joined_bits.Given as goal

abbrev pub invariant-loop-place : goal.invariant-loop-place
invariant-loop-place l = l.bits.items ++ bits_from l.inst l.place (drop l.place l.nets) ≡ bits_from l.inst 0 l.fn.nets
