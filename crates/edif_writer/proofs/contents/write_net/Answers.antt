use Rattle.std.proofs.Common.{suc, map, ap}
use Rattle.edif_spec.specs.Canonical.{property_tree}
use Rattle.edif_writer.specs.Lines.{spaced}
use Rattle.edif_spec.specs.Nets.{single_form}
use Rattle.edif_writer.proofs.ContentsTexts.{net_text}
use Rattle.netdb_outside.proofs.BufferedLemmas.{writes_then, writes_same}
use Rattle.edif_writer.proofs.contents.write_net.Goals as goal

pub returns : goal.returns
returns g c level = writes_same (net_text level (g.S.Shown.design c.args.around.now.design.now).libs c.args.around.now.own.now c.args.around.now.insts.now (single_form c.args.net.now))
    (writes_then c.put.ensures (writes_then (c.write_name.ensures (suc level)) (writes_then c.put-2.ensures (writes_then (c.write_ends.ensures (suc level))
    (writes_then c.put-3.ensures (writes_then (writes_same (ap (λ v. spaced level (map property_tree v)) c.as_slice.ensures) (c.write_properties.ensures level)) c.put-4.ensures))))))
