use Rattle.std.proofs.Common.{append-nil}
use Rattle.netdb_outside.proofs.BufferedLemmas.{finished_badly, finished_well, writes_same, writes_then}
use Rattle.flat_writer.specs.Given.{text_of_items}
use Rattle.flat_writer.proofs.flat.write_left.Goals as goal

pub returns-clause-ok : goal.returns-clause-ok
returns-clause-ok g c =
    let text = text_of_items c.args.walk.now.design c.args.limit c.args.walk.now.left in
    let given = writes_same (append-nil text) (writes_then {x = text} c.put_left.ensures c.finish.ensures.written) in
    finished_well c.finish.result given c.new-page.ensures c.finish.ensures.ok

pub returns-clause-err : goal.returns-clause-err
returns-clause-err g c =
    let text = text_of_items c.args.walk.now.design c.args.limit c.args.walk.now.left in
    let given = writes_same (append-nil text) (writes_then {x = text} c.put_left.ensures c.finish.ensures.written) in
    finished_badly c.finish.result given c.new-page.ensures c.finish.ensures.err
