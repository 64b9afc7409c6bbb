use Rattle.std.proofs.Common.{sym, ap, ◌∙◌}
use Rattle.std.proofs.lemmas.Result.{IfOk-weaker}
use Rattle.netlist_schema.specs.Design.{Design}
use Rattle.edit_spec.specs.Step.{run}
use Rattle.edit_tx.specs.Facts.{PinFacts}
use Rattle.db_version.specs.Shot.{Shot}
use Rattle.db_core.proofs.next.next_version.Goals as goal

pub returns-then-version : goal.returns-then-version
returns-then-version c =
    IfOk-weaker c.next.result _ _
    (λ made is. is ∙ ap (λ (d : Design). let shot : Shot = record { version = c.args.version; design = (run d c.args.tx.now.ops).design } in shot)
    (c.requires.one (sym (c.version.ensures ∙ ap (λ (p : PinFacts). p.version) c.pin.ensures) ∙ (c.if-version.true ∙ c.version-2.ensures))))
    c.next.ensures
