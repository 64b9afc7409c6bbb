use Rattle.std.proofs.Common.{◌<◌, ◌+◌, ◌^◌, ℕ, List, length}
use Rattle.ungroup_plans.specs.Taken.{IsOf}
use Rattle.ungroup_spec.specs.Dissolved.{inst_name, with_inst_name}
use Rattle.ungroup_plans.proofs.Named.{AreNamedSoFar}
use Rattle.ungroup_plans.proofs.insts.add_children.Given as goal

abbrev pub invariant-loop-place : goal.invariant-loop-place
invariant-loop-place l =
    (names : List (List ℕ)) → IsOf l.initial.taken names → length names + length l.children < 2 ^ 62
    → AreNamedSoFar inst_name with_inst_name l.inst l.taken names l.children l.place l.initial.made.items l.made.items
