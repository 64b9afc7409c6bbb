use Rattle.std.proofs.Common.{◌≡◌}
use Rattle.gen_spec.specs.Summary.{counts_of}
use Rattle.gen_rounds.proofs.Counted.{counted}
use Rattle.gen_rounds.proofs.counting.count_items.Given as goal

-- what was counted, and then what is left
abbrev pub invariant-loop : goal.invariant-loop
invariant-loop l = counted l.counts l.walk.left ≡ counts_of l.fn.walk.left
