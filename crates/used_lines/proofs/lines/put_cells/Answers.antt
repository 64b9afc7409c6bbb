use Rattle.netdb_outside.proofs.BufferedLemmas.{writes_then, writes_same}
use Rattle.used_lines.proofs.Telling.{one_more_lib}
use Rattle.used_lines.proofs.lines.put_cells.Goals as goal

pub loop-lib-preserved : goal.loop-lib-preserved
loop-lib-preserved g c = writes_same (one_more_lib (g.S.Shown.design c.args.design.now) c.loop-lib.lib) (writes_then c.loop-lib.invariant c.put_library.ensures)
