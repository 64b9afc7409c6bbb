use Rattle.std.proofs.Common.{◌≡◌, ◌++◌, drop}
use Rattle.std.specs.BTreeMap.{get}
use Rattle.std.specs.List.{filter_map}
use Rattle.ungroup_plans.specs.Links.{bit_cmp, link}
use Rattle.ungroup_plans.proofs.links.list_links.Given as goal

abbrev pub invariant-loop-joined : goal.invariant-loop-joined
invariant-loop-joined l =
    l.pairs.items ++ filter_map (link (get bit_cmp l.outer) l.behind) (drop l.joined-index l.inner) ≡ filter_map (link (get bit_cmp l.outer) l.behind) l.inner
