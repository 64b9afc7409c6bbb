use Rattle.std.proofs.Common.{subst, sym}
use Rattle.std.specs.List.{AllPairs}
use Rattle.net_ways.specs.Ways.{IsOuter, WayUpto}
use Rattle.net_ways.proofs.ways.Ways.outer_net.Goals as goal

pub way_at-requires : goal.way_at-requires
way_at-requires c = subst (AllPairs WayUpto) (sym c.into_cell.ensures) c.requires

pub returns : goal.returns
returns c = subst (λ v. IsOuter v c.args.inst c.args.first c.way_at.result) c.into_cell.ensures c.way_at.ensures
