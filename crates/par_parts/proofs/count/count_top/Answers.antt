use Rattle.std.proofs.Common.{◌∙◌, ◌+◌, ◌-◌, ◌^◌, min}
use Rattle.par_parts.proofs.CountLemmas.{counted_top}
use Rattle.par_parts.proofs.count.count_top.Goals as goal

pub returns : goal.returns
returns g c = λ head is.
    counted_top (g.S.Shown.design c.args.design.now) c.args.top c.args.counts.now c.requires.valid c.requires.counts head c.saturating_add.result
    (c.saturating_add.ensures ∙ (λ t. min (c.top_bits.ensures t + c.count_cell.ensures t) (2 ^ 64 - 1)))
