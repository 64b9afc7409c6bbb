use Rattle.std.proofs.Common.{sym, ap, ◌∙◌}
use Rattle.design_model.specs.Items.{bits_from}
use Rattle.design_model.proofs.PinLemmas.{shown_bits-root, shown_bits-leaf, shown_bits-none}
use Rattle.design_model.proofs.pins.ports_in.Goals as goal

pub returns-then-is_empty-clause-bits : goal.returns-then-is_empty-clause-bits
returns-then-is_empty-clause-bits c =
    ap (bits_from 0) c.as_slice.ensures ∙ shown_bits-root c.args.path.now c.args.body.now (sym c.is_empty.ensures ∙ c.if-is_empty.true)

pub returns-in-None-clause-bits : goal.returns-in-None-clause-bits
returns-in-None-clause-bits c = ap (bits_from 0) c.as_slice-in-None.ensures ∙ shown_bits-leaf c.args.path.now c.args.body.now c.in-None.is

pub returns-in-Some-clause-bits : goal.returns-in-Some-clause-bits
returns-in-Some-clause-bits c =
    shown_bits-none c.args.path.now c.args.body.now c.in-Some.field-0 (sym c.is_empty.ensures ∙ c.if-is_empty.false) c.in-Some.is
