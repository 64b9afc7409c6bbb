use Rattle.std.proofs.Common.{ap, ◌∙◌}
use Rattle.edit_spec.specs.Step.{run}
use Rattle.edit_tx.specs.Facts.{TxFacts}
use Rattle.edit_tx.proofs.tx.Tx.next.Goals as goal

pub returns : goal.returns
returns c = c.of.ensures ∙ λ i. record {
  version = c.args.version;
  design = (c.in_ok-new.ensures.ok ∙ (c.in_ok-made.ensures ∙ (c.self.invariant.design ∙ ap (λ (f : TxFacts). (run f.pin.design f.ops).design) c.self.view_is))) i;
}
