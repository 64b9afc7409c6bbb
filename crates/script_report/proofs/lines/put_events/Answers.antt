use Rattle.netdb_outside.proofs.BufferedLemmas.{writes_then, writes_same}
use Rattle.script_report.proofs.Numbered.{one_more_event}
use Rattle.script_report.proofs.lines.put_events.Goals as goal

pub loop-number-preserved : goal.loop-number-preserved
loop-number-preserved g c =
    writes_same (one_more_event (g.S.Shown.design c.args.design.now) c.args.events.now c.loop-number.number c.index-events-number.result c.loop-number-test.true c.index-events-number.is)
    (writes_then c.loop-number.invariant c.put_event.ensures)
