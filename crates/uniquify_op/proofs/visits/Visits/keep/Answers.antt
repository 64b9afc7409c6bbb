use Rattle.std.proofs.Common.{[]}
use Rattle.uniquify_op.specs.Marks.{marks_after}
use Rattle.uniquify_op.proofs.Walking.{put_first}
use Rattle.uniquify_op.proofs.visits.Visits.keep.Goals as goal

pub returns-clause-kept : goal.returns-clause-kept
returns-clause-kept g c = λ top seen up visited numbered.
    let d = (g.C.Cells.state c.args.cells.now).design in
    put_first d top seen up c.args.step c.args.self.now (record { draft = c.keep.new.self; met = c.add.new.self }) c.args.above c.in_ok-kids.kids c.in_ok-row.row c.requires c.in_ok-kids.ensures.found
    (c.in_ok-keep.ensures d top (marks_after [] seen) up visited.draft numbered) c.in_ok-row.ensures.place c.in_ok-row.ensures.rows c.in_ok-row.ensures.places visited
