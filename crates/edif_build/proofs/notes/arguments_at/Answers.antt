use Rattle.std.proofs.Common.{length, ap, arith}
use Rattle.edif_tree.specs.Handles.{here, all}
use Rattle.edif_build.proofs.NoteLemmas.{behind_first}
use Rattle.edif_build.proofs.notes.arguments_at.Goals as goal

pub returns-then-len-least-clause-none : goal.returns-then-len-least-clause-none
returns-then-len-least-clause-none c =
    let e = ap length (behind_first (here c.args.node) _ (all c.in-Form.nodes) (all c.in_ok-arguments.arguments) c.in-Form.ensures c.in_ok-arguments.ensures.some) in
    omega (arith, e)

pub returns-clause-some : goal.returns-clause-some
returns-clause-some c = (behind_first (here c.args.node) (here c.in_ok-arguments.field-0-0) (all c.in-Form.nodes) (all c.in_ok-arguments.arguments) c.in-Form.ensures c.in_ok-arguments.ensures.some, omega arith)
