use Rattle.std.proofs.Common.{◌≡◌, ◌++◌, map, take}
use Rattle.edif_nets.specs.Keys.{end_key}
use Rattle.edif_nets.proofs.joins.net_keys.Given as goal

-- the numbers of the ends so far
abbrev pub invariant-loop-end : goal.invariant-loop-end
invariant-loop-end l = l.keys.items ≡ l.fn.keys.items ++ map end_key (take l.end-index l.ends)
