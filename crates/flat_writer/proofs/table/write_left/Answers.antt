use Rattle.std.proofs.Common.{◌++◌, ap, append-nil}
use Rattle.netdb_outside.proofs.BufferedLemmas.{finished_badly, finished_well, writes_same, writes_then}
use Rattle.flat_csv_spec.specs.PinTable.{header, pin_rows}
use Rattle.flat_writer.proofs.table.write_left.Goals as goal

pub returns-clause-ok : goal.returns-clause-ok
returns-clause-ok g c =
    let rows = pin_rows c.args.walk.now.design c.args.walk.now.left in
    let given = writes_same (ap (λ v. header ++ v) (append-nil rows))
    (writes_then (rw c.header.ensures at c.put.ensures) (writes_then c.put_left.ensures c.finish.ensures.written)) in
    finished_well c.finish.result given c.new-page.ensures c.finish.ensures.ok

pub returns-clause-err : goal.returns-clause-err
returns-clause-err g c =
    let rows = pin_rows c.args.walk.now.design c.args.walk.now.left in
    let given = writes_same (ap (λ v. header ++ v) (append-nil rows))
    (writes_then (rw c.header.ensures at c.put.ensures) (writes_then c.put_left.ensures c.finish.ensures.written)) in
    finished_badly c.finish.result given c.new-page.ensures c.finish.ensures.err
