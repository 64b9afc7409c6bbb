use Rattle.std.proofs.Common.{arith, rules}
use Rattle.std.proofs.lemmas.List.Sorted.{IsPartitionPoint-from_clause}
use Rattle.used_spec.specs.Uses.{comes_before}
use Rattle.where_used.proofs.Rising.{place_is, searchable}
use Rattle.where_used.proofs.rows.place_of.Goals as goal

pub returns-clause-value : goal.returns-clause-value
returns-clause-value c =
    let at = c.args.at in
    let us = c.args.users.now in
    let point = IsPartitionPoint-from_clause (λ u. comes_before u at) _ _ c.partition_point.ensures.partitioned (searchable at us c.requires) (λ a r q k. search rules) in
    place_is at us c.partition_point.result c.partition_point.ensures.bound (λ k d less. point.0 k d (omega arith) less) point.1
