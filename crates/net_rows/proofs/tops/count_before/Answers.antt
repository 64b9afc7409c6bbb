use Rattle.std.proofs.Common.{rules}
use Rattle.std.proofs.lemmas.List.Sorted.{IsPartitionPoint-from_clause}
use Rattle.flat_spec.specs.Paths.{Bit}
use Rattle.erc_spec.specs.Told.{BitBefore}
use Rattle.net_rows.specs.Tops.{bit_before, bit_of}
use Rattle.net_rows.specs.declared.tops.OwnBit.{OwnBit}
use Rattle.net_rows.proofs.BitLemmas.{bit_back}
use Rattle.net_ways.proofs.CountLemmas.{counted, parted}
use Rattle.net_rows.proofs.tops.count_before.Goals as goal

pub returns : goal.returns
returns c =
    let b : Bit = record { port = c.args.port; bit = c.args.bit } in
    let bits = c.args.bits.now in
    let point = IsPartitionPoint-from_clause (λ (v : OwnBit). bit_before (bit_of v) b) _ _ c.partition_point.ensures.partitioned
    (parted (λ (v w : OwnBit). BitBefore (bit_of v) (bit_of w)) (λ (v : OwnBit). bit_before (bit_of v) b) bits c.requires (λ v w order e. bit_back b v w order e))
    (λ a r q k. search rules) in
    counted (λ (v : OwnBit). bit_before (bit_of v) b) bits c.partition_point.result c.partition_point.ensures.bound point
