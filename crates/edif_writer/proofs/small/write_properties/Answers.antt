use Rattle.std.proofs.Common.{◌∷◌, suc, map, arith, ap}
use Rattle.std.proofs.lemmas.List.{take_all}
use Rattle.edif_spec.specs.Canonical.{layout, property_tree}
use Rattle.edif_writer.specs.Lines.{spaced}
use Rattle.edif_writer.proofs.FormTexts.{one_more}
use Rattle.netdb_outside.proofs.BufferedLemmas.{writes_then, writes_same}
use Rattle.edif_writer.proofs.small.write_properties.Goals as goal

pub loop-property-preserved : goal.loop-property-preserved
loop-property-preserved g c level =
    writes_same (one_more (λ t. 32 ∷ layout (suc level) t) property_tree c.args.properties.now c.loop-property.property-index c.property-item.result c.loop-property-test.true c.property-item.is)
    (writes_then (c.loop-property.invariant level) (writes_then c.put.ensures (c.write_property.ensures (suc level))))

pub returns : goal.returns
returns g c level =
    writes_same (ap (λ v. spaced level (map property_tree v)) (take_all c.loop-property.property-index c.args.properties.now (omega arith))) (c.loop-property.invariant level)
