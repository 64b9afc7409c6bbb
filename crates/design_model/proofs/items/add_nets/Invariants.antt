use Rattle.std.proofs.Common.{◌≡◌, ◌-◌, ◌++◌, map}
use Rattle.std.specs.List.{range_with_len}
use Rattle.flat_spec.specs.Flattening.{net_item}
use Rattle.flat_spec.specs.Occurrences.{own_nets}
use Rattle.flat_spec.specs.Paths.{at_path}
use Rattle.design_model.proofs.items.add_nets.Given as goal

abbrev pub invariant-loop-net : goal.invariant-loop-net
invariant-loop-net g l =
    l.items.items ++ map (net_item (g.S.Shown.design l.design) l.nets.root) (map (at_path l.occurrence.path) (range_with_len l.net (l.count - l.net)))
    ≡ l.fn.items.items ++ map (net_item (g.S.Shown.design l.design) l.nets.root) (own_nets (g.S.Shown.design l.design) l.occurrence)
