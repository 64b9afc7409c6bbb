use Rattle.std.proofs.Common.{◌≡◌, map}
use Rattle.std.specs.List.{range_with_len}
use Rattle.used_spec.specs.Uses.{count_in}
use Rattle.where_used.specs.Index.{blank_row}
use Rattle.where_used.proofs.build.blank.Given as goal

abbrev pub invariant-loop-lib : goal.invariant-loop-lib
invariant-loop-lib g l = l.libs.items ≡ map (λ lib. blank_row (count_in (g.S.Shown.design l.design) lib)) (range_with_len 0 l.lib)
