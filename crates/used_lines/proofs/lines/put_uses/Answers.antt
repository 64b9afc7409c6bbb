use Rattle.netdb_outside.proofs.BufferedLemmas.{writes_then, writes_same}
use Rattle.used_lines.proofs.Telling.{one_more_use}
use Rattle.used_lines.proofs.lines.put_uses.Goals as goal

pub loop-number-preserved : goal.loop-number-preserved
loop-number-preserved g c =
    writes_same (one_more_use (g.S.Shown.design c.args.design.now) c.args.users.now c.loop-number.number _ c.loop-number-test.true)
    (writes_then c.loop-number.invariant c.put_use.ensures)
