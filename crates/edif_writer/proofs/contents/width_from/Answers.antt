use Rattle.std.proofs.Common.{arith}
use Rattle.edif_writer.proofs.NetForms.{width_least, width_most, width_there}
use Rattle.edif_spec.specs.Canonical.{ports_of_end}
use Rattle.edif_writer.proofs.contents.width_from.Goals as goal

pub returns : goal.returns
returns g c =
    let d = g.S.Shown.design c.args.around.now.design.now in
    let nets = c.args.nets.now in
    let ports = ports_of_end d.libs c.args.around.now.own.now c.args.around.now.insts.now in
    let width = width_there d c.args.around.now.own.now c.as_slice.result.now c.args.around.now.insts.now c.lent.result nets c.run_from.result c.as_slice.ensures c.lent.ensures c.run_from.ensures in
    let least = width_least ports nets in
    let most = width_most ports nets c.requires in
    record { width = width; least = omega (arith, width, least); most = omega (arith, width, most) }
