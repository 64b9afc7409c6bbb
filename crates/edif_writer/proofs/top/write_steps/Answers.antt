use Rattle.std.proofs.Common.{◌∷◌, suc, map, arith, ap, ◌∙◌}
use Rattle.std.proofs.lemmas.List.{take_all}
use Rattle.edif_spelling_spec.specs.Tree.{word}
use Rattle.edif_spec.specs.Canonical.{layout}
use Rattle.edif_writer.specs.Lines.{spaced}
use Rattle.edif_writer.proofs.FormTexts.{one_more}
use Rattle.netdb_outside.proofs.BufferedLemmas.{writes_then, writes_same}
use Rattle.edif_writer.proofs.top.write_steps.Goals as goal

pub loop-step-preserved : goal.loop-step-preserved
loop-step-preserved g c level =
    writes_same (one_more (λ t. 32 ∷ layout (suc level) t) word c.as_slice-step-items.result.now c.loop-step.step-index c.step-item.result c.loop-step-test.true c.step-item.is)
    (writes_then (c.loop-step.invariant level) (writes_then c.put.ensures c.put_ident.ensures))

pub returns : goal.returns
returns g c level =
    writes_same (ap (λ v. spaced level (map word v)) (take_all c.loop-step.step-index c.as_slice-step-items.result.now (omega arith) ∙ c.as_slice-step-items.ensures)) (c.loop-step.invariant level)
