use Rattle.std.proofs.Common.{rules}
use Rattle.std.proofs.lemmas.List.Sorted.{IsPartitionPoint-from_clause}
use Rattle.net_ways.specs.Ways.{WayUpto, way_before}
use Rattle.net_ways.proofs.CountLemmas.{counted, parted, way_back}
use Rattle.net_ways.proofs.ways.count_before.Goals as goal

pub returns : goal.returns
returns c =
    let inst = c.args.inst in
    let first = c.args.first in
    let ways = c.args.ways.now in
    let point = IsPartitionPoint-from_clause (way_before inst first) _ _ c.partition_point.ensures.partitioned (parted WayUpto (way_before inst first) ways c.requires (λ v w order e. way_back inst first v w order e))
    (λ a r q k. search rules) in
    counted (way_before inst first) ways c.partition_point.result c.partition_point.ensures.bound point
