use Rattle.std.proofs.Common.{◌≡◌}
use Rattle.gen_spec.specs.Generated.{inverters}
use Rattle.design_gen.proofs.design.inverters.Given as goal

abbrev pub invariant-loop-number : goal.invariant-loop-number
invariant-loop-number l = l.made.items ≡ inverters l.number
