use Rattle.std.proofs.Common.{◌++◌, suc}
use Rattle.edif_spec.specs.Canonical.{layout, new_line, property_tree}
use Rattle.edif_writer.proofs.FormTexts.{one_more}
use Rattle.netdb_outside.proofs.BufferedLemmas.{writes_then, writes_same}
use Rattle.edif_writer.proofs.small.write_property_lines.Goals as goal

pub loop-property-preserved : goal.loop-property-preserved
loop-property-preserved g c =
    writes_same (one_more (λ t. new_line c.args.level ++ layout (suc c.args.level) t) property_tree c.as_slice-property-items.result.now c.loop-property.property-index c.property-item.result c.loop-property-test.true c.property-item.is)
    (writes_then c.loop-property.invariant (writes_then c.put_line.ensures (c.write_property.ensures (suc c.args.level))))
