use Rattle.std.proofs.Common.{◌≡◌, map}
use Rattle.std.specs.BTreeSet.{contains}
use Rattle.std.specs.List.{range_with_len}
use Rattle.netlist_schema.specs.Order.{cell_cmp}
use Rattle.used_spec.specs.Uses.{count_in}
use Rattle.used_keep.specs.Places.{slots_by}
use Rattle.used_keep.proofs.places.rows.Given as goal

abbrev pub invariant-loop-lib : goal.invariant-loop-lib
invariant-loop-lib g l = l.rows.items ≡ map (λ lib. slots_by (contains cell_cmp l.set) lib (count_in (g.S.Shown.design l.design) lib)) (range_with_len 0 l.lib)
