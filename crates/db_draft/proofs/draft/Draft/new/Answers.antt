use Rattle.std.proofs.Common.{arith}
use Rattle.db_draft.proofs.Fresh.{same_design, nothing_suits}
use Rattle.db_draft.proofs.Suiting.{all_empty}
use Rattle.db_draft.proofs.draft.Draft.new.Goals as goal

pub invariant_of-result : goal.invariant_of-result
invariant_of-result c =
    all_empty c.args.base.design.libs c.in_ok-layers.layers.items (omega (arith, c.in_ok-layers.ensures.0, c.lib_count.ensures.value)) nothing_suits c.in_ok-layers.ensures.1

pub returns : goal.returns
returns c = λ i. record { base = c.args.base.design; design = same_design c.args.base.design c.in_ok-layers.layers.items c.in_ok-layers.ensures.1 i }
