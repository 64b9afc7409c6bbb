use Rattle.std.proofs.Common.{List, subst, sym}
use Rattle.std.specs.List.{AllPairs}
use Rattle.erc_spec.specs.Told.{BitBefore}
use Rattle.net_rows.specs.Tops.{IsNextBit, bit_of}
use Rattle.net_rows.specs.declared.tops.OwnBit.{OwnBit}
use Rattle.net_rows.proofs.BitLemmas.{next_bit}
use Rattle.net_rows.proofs.tops.TopRows.bit_from.Goals as goal

pub count_before-count-requires : goal.count_before-count-requires
count_before-count-requires c = subst (AllPairs (λ (v w : OwnBit). BitBefore (bit_of v) (bit_of w))) (sym c.bits-bits.ensures) c.requires

pub returns : goal.returns
returns c =
    subst (λ (bits : List OwnBit). IsNextBit bits (record { port = c.args.port; bit = c.args.bit }) c.bit_in.result) c.bits-bits.ensures
    (next_bit c.bits-bits.result.now (record { port = c.args.port; bit = c.args.bit }) c.count_before-count.result c.bit_in.result
    (subst (AllPairs (λ (v w : OwnBit). BitBefore (bit_of v) (bit_of w))) (sym c.bits-bits.ensures) c.requires) c.count_before-count.ensures c.bit_in.ensures)
