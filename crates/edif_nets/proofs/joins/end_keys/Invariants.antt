use Rattle.std.proofs.Common.{◌≡◌, map, take}
use Rattle.edif_nets.specs.Joins.{ends_of}
use Rattle.edif_nets.specs.Keys.{end_key}
use Rattle.edif_nets.proofs.joins.end_keys.Given as goal

-- the numbers of the ends of the nets so far
abbrev pub invariant-loop-net : goal.invariant-loop-net
invariant-loop-net l = l.keys.items ≡ map end_key (ends_of (take l.net-index l.nets))
