use Rattle.std.proofs.Common.{append-nil}
use Rattle.netdb_outside.proofs.BufferedLemmas.{finished_badly, finished_well, writes_same, writes_then}
use Rattle.erc_spec.specs.Lines.{found_text}
use Rattle.erc_report.proofs.write.write_found.Goals as goal

pub returns-clause-ok : goal.returns-clause-ok
returns-clause-ok g c =
    let text = found_text (g.S.Shown.design c.args.design.now) c.args.found.now in
    let given = writes_same (append-nil text) (writes_then (writes_then c.put_lines.ensures c.put.ensures) c.finish.ensures.written) in
    finished_well c.finish.result given c.new-page.ensures c.finish.ensures.ok

pub returns-clause-err : goal.returns-clause-err
returns-clause-err g c =
    let text = found_text (g.S.Shown.design c.args.design.now) c.args.found.now in
    let given = writes_same (append-nil text) (writes_then (writes_then c.put_lines.ensures c.put.ensures) c.finish.ensures.written) in
    finished_badly c.finish.result given c.new-page.ensures c.finish.ensures.err
