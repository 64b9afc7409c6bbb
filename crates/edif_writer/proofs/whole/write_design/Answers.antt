use Rattle.std.proofs.Common.{append-nil}
use Rattle.edif_spec.specs.Arranged.{canonical_text}
use Rattle.netdb_outside.proofs.BufferedLemmas.{writes_then, writes_same, finished_well, finished_badly}
use Rattle.edif_writer.proofs.whole.write_design.Goals as goal

pub returns-clause-ok : goal.returns-clause-ok
returns-clause-ok g c =
    let given = writes_same (append-nil (canonical_text (g.S.Shown.design c.args.design.now))) (writes_then c.write_file.ensures c.finish.ensures.written) in
    finished_well c.finish.result given c.new-page.ensures c.finish.ensures.ok

pub returns-clause-err : goal.returns-clause-err
returns-clause-err g c =
    let given = writes_same (append-nil (canonical_text (g.S.Shown.design c.args.design.now))) (writes_then c.write_file.ensures c.finish.ensures.written) in
    finished_badly c.finish.result given c.new-page.ensures c.finish.ensures.err
