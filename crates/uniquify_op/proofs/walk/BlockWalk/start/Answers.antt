use Rattle.uniquify_op.proofs.Walking.{walk_starts}
use Rattle.uniquify_op.proofs.walk.BlockWalk.start.Goals as goal

pub returns-clause-walk : goal.returns-clause-walk
returns-clause-walk g c =
    let d = (g.C.Cells.state c.args.cells.now).design in
    walk_starts d c.requires c.args.top (record { visits = record { draft = c.new-draft.result; met = c.in_ok-met.met }; stack = c.push.new.self }) c.in_ok-kids.kids c.in_ok-kids.ensures.found
    (c.new-draft.ensures d c.args.top) c.in_ok-met.ensures.rows c.in_ok-met.ensures.places (rw c.new-stack.ensures.items at c.in_ok-push.ensures.items)
