use Rattle.netdb_outside.proofs.BufferedLemmas.{writes_nothing, writes_same, writes_then}
use Rattle.erc_report.proofs.LineLemmas.{one_line_more}
use Rattle.erc_report.proofs.write.put_lines.Goals as goal

pub loop-finding-init : goal.loop-finding-init
loop-finding-init g c = writes_nothing c.args.out.now c.args.page.now

pub loop-finding-preserved : goal.loop-finding-preserved
loop-finding-preserved g c =
    writes_same (one_line_more (g.S.Shown.design c.args.design.now) c.args.found.now c.loop-finding.finding-index c.finding-item.result c.loop-finding-test.true c.finding-item.is)
    (writes_then c.loop-finding.invariant c.put_text.ensures)
