use Rattle.std.proofs.Common.{◌≡◌, ◌++◌, drop}
use Rattle.std.specs.List.{flat_map}
use Rattle.flat_spec.specs.Occurrences.{own_nets}
use Rattle.design_model.proofs.walk.list_nets.Given as goal

abbrev pub invariant-loop-occurrence : goal.invariant-loop-occurrence
invariant-loop-occurrence g l =
    l.found.items ++ flat_map (own_nets (g.S.Shown.design l.design)) (drop l.occurrence-index l.occurrences)
    ≡ flat_map (own_nets (g.S.Shown.design l.design)) l.occurrences
