use Rattle.std.proofs.Common.{◌≡◌, take}
use Rattle.edif_nets.specs.Joins.{ends_of}
use Rattle.edif_nets.proofs.joins.all_ends.Given as goal

-- the ends of the nets so far
abbrev pub invariant-loop-net : goal.invariant-loop-net
invariant-loop-net l = l.ends.items ≡ ends_of (take l.net-index l.nets)
