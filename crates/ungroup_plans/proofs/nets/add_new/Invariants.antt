use Rattle.std.proofs.Common.{◌<◌, ◌+◌, ◌^◌, ℕ, List, length}
use Rattle.ungroup_plans.specs.Taken.{IsOf}
use Rattle.ungroup_spec.specs.Dissolved.{net_name, with_net_name}
use Rattle.ungroup_plans.proofs.Named.{AreNamedSoFar}
use Rattle.ungroup_plans.proofs.nets.add_new.Given as goal

abbrev pub invariant-loop-net : goal.invariant-loop-net
invariant-loop-net l =
    (names : List (List ℕ)) → IsOf l.initial.taken names → length names + length l.nets < 2 ^ 62
    → AreNamedSoFar net_name with_net_name l.inst l.taken names l.nets l.net-index l.initial.made.items l.made.items
