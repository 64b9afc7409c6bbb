use Rattle.std.proofs.Common.{◌≡◌, ◌-◌, ◌++◌, map}
use Rattle.std.specs.List.{range_with_len}
use Rattle.flat_spec.specs.Occurrences.{own_nets}
use Rattle.flat_spec.specs.Paths.{at_path}
use Rattle.design_model.proofs.walk.list_own.Given as goal

abbrev pub invariant-loop-net : goal.invariant-loop-net
invariant-loop-net g l =
    l.found.items ++ map (at_path l.occurrence.path) (range_with_len l.net (l.count - l.net))
    ≡ l.fn.found.items ++ own_nets (g.S.Shown.design l.design) l.occurrence
