use Rattle.std.proofs.Common.{refl, subst}
use Rattle.uniquify_op.specs.Frames.{IsTaken}
use Rattle.uniquify_op.specs.declared.frame.Next.TheVariants.{End, Back, Block}
use Rattle.uniquify_op.proofs.Walking.{taken_is_cell, turned_by, walk_back, walk_over, walk_taken}
use Rattle.uniquify_op.proofs.walk.BlockWalk.turn.Goals as goal

pub returns-in-End-clause-turned : goal.returns-in-End-clause-turned
returns-in-End-clause-turned g c = λ top os seen walk.
    let d = (g.C.Cells.state c.args.cells.now).design in
    walk_over d top os seen c.args.self.now (record { visits = c.args.self.now.visits; stack = c.take_next.new.stack }) refl walk
    (subst (λ rows. IsTaken rows c.args.self.now.stack.items c.take_next.new.stack.items End) c.as_slice-rows.ensures.value (rw c.in-End.is at c.in_ok-next.ensures))

pub returns-in-Back-clause-turned : goal.returns-in-Back-clause-turned
returns-in-Back-clause-turned g c = λ top os seen walk.
    let d = (g.C.Cells.state c.args.cells.now).design in (
      seen,
      walk_back d top os seen c.args.self.now (record { visits = c.args.self.now.visits; stack = c.take_next.new.stack }) refl walk
          (subst (λ rows. IsTaken rows c.args.self.now.stack.items c.take_next.new.stack.items Back) c.as_slice-rows.ensures.value (rw c.in-Back.is at c.in_ok-next.ensures)),
    )

pub visit-requires-clause-cell : goal.visit-requires-clause-cell
visit-requires-clause-cell g c =
    let d = (g.C.Cells.state c.args.cells.now).design in
    let some = c.requires.walk in
    taken_is_cell d some.0 some.1 some.2 c.args.self.now c.take_next.new.stack.items c.in-Block.above c.in-Block.step some.3
    (subst (λ rows. IsTaken rows c.args.self.now.stack.items c.take_next.new.stack.items (Block c.in-Block.above c.in-Block.step)) c.as_slice-rows.ensures.value (rw c.in-Block.is at c.in_ok-next.ensures))

pub returns-in-Block-clause-turned : goal.returns-in-Block-clause-turned
returns-in-Block-clause-turned g c =
    let d = (g.C.Cells.state c.args.cells.now).design in
    turned_by d c.args.self.now (record { visits = c.args.self.now.visits; stack = c.take_next.new.stack }) c.visit.new.self c.in-Block.above c.in-Block.step c.visit.result c.visit.ensures.turned
    (λ top os seen walk.
    walk_taken d top os seen c.args.self.now (record { visits = c.args.self.now.visits; stack = c.take_next.new.stack }) c.in-Block.above c.in-Block.step refl walk
    (subst (λ rows. IsTaken rows c.args.self.now.stack.items c.take_next.new.stack.items (Block c.in-Block.above c.in-Block.step)) c.as_slice-rows.ensures.value (rw c.in-Block.is at c.in_ok-next.ensures)))
