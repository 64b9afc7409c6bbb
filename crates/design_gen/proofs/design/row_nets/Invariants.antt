use Rattle.std.proofs.Common.{◌≡◌, map}
use Rattle.std.specs.List.{range_with_len}
use Rattle.gen_spec.specs.Generated.{net_at}
use Rattle.design_gen.proofs.design.row_nets.Given as goal

abbrev pub invariant-loop-number : goal.invariant-loop-number
invariant-loop-number l = l.made.items ≡ map (net_at l.count) (range_with_len 0 l.number)
