use Rattle.std.proofs.Common.{◌≡◌, map, take}
use Rattle.edif_spec.specs.Design as design
use Rattle.edif_nets.specs.Keys.{name_key}
use Rattle.edif_nets.proofs.net_list.name_keys.Given as goal

-- the numbers of the names so far
abbrev pub invariant-loop-net : goal.invariant-loop-net
invariant-loop-net l = l.keys.items ≡ map (λ (n : design.Net). name_key 0 n.name.id) (take l.net-index l.nets)
