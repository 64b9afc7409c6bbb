use Rattle.std.proofs.Common.{ap}
use Rattle.edif_spec.specs.Canonical.{layout, net_tree}
use Rattle.edif_writer.proofs.NetForms.{run_there, single_there}
use Rattle.netdb_outside.proofs.BufferedLemmas.{writes_same}
use Rattle.edif_writer.proofs.contents.write_form.Goals as goal

pub returns-then-width-lt-LEAST_RUN : goal.returns-then-width-lt-LEAST_RUN
returns-then-width-lt-LEAST_RUN g c level =
    writes_same (ap (λ f. layout level (net_tree (g.S.Shown.design c.args.around.now.design.now).libs c.args.around.now.own.now c.args.around.now.insts.now f)) (single_there c.args.width c.args.net.now c.if-width-lt-LEAST_RUN.true)) (c.write_net.ensures level)

pub returns-else-width-lt-LEAST_RUN : goal.returns-else-width-lt-LEAST_RUN
returns-else-width-lt-LEAST_RUN g c level =
    writes_same (ap (λ f. layout level (net_tree (g.S.Shown.design c.args.around.now.design.now).libs c.args.around.now.own.now c.args.around.now.insts.now f)) (run_there c.args.width c.args.net.now c.if-width-lt-LEAST_RUN.false)) (c.write_run.ensures level)
