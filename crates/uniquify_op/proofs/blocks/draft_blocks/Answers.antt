use Rattle.std.proofs.Common.{[], subst, sym}
use Rattle.uniquify_copies.proofs.SomeReads.{some_then}
use Rattle.uniquify_spec.specs.Blocks.{blocks_below}
use Rattle.uniquify_copies.specs.Drafts.{IsDraft}
use Rattle.uniquify_op.specs.Marks.{marked}
use Rattle.uniquify_op.specs.Walks.{IsTurned}
use Rattle.uniquify_op.proofs.Walking.{some_walk, turned_here}
use Rattle.uniquify_op.proofs.blocks.draft_blocks.Goals as goal

pub loop-init : goal.loop-init
loop-init g c = record {
  walking = ([], c.in_ok-walk.ensures.walk);
  some = c.in_ok-walk.ensures.some;
}

pub turn-requires-clause-walk : goal.turn-requires-clause-walk
turn-requires-clause-walk g c =
    some_walk (g.C.Cells.state c.args.cells.now).design (g.C.Cells.state c.loop.cells).design c.loop.invariant.some.design c.args.top c.loop.walk c.loop.invariant.walking

pub returns-in-Ok-Over-clause-drafted : goal.returns-in-Ok-Over-clause-drafted
returns-in-Ok-Over-clause-drafted g c =
    let d = (g.C.Cells.state c.args.cells.now).design in
    subst (IsDraft d c.args.top (marked d c.args.top)) (sym c.draft_of.ensures)
    (subst (IsTurned d c.args.top (blocks_below d c.args.top) c.turn.new.self) c.in-Ok-Over.field-0-is
    (turned_here d (g.C.Cells.state c.loop.cells).design c.loop.invariant.some.design c.args.top c.loop.walk c.turn.new.self c.in-Ok-Over.field-0 c.loop.invariant.walking c.in-Ok-Over.ensures.turned))

pub returns-in-Ok-Full-clause-drafted : goal.returns-in-Ok-Full-clause-drafted
returns-in-Ok-Full-clause-drafted g c =
    let d = (g.C.Cells.state c.args.cells.now).design in
    subst (IsTurned d c.args.top (blocks_below d c.args.top) c.turn.new.self) c.in-Ok-Full.field-0-is
    (turned_here d (g.C.Cells.state c.loop.cells).design c.loop.invariant.some.design c.args.top c.loop.walk c.turn.new.self c.in-Ok-Full.field-0 c.loop.invariant.walking c.in-Ok-Full.ensures.turned)

pub loop-preserved : goal.loop-preserved
loop-preserved g c =
    let s = g.C.Cells.state c.args.cells.now in
    record {
      walking = subst (IsTurned s.design c.args.top (blocks_below s.design c.args.top) c.turn.new.self) c.in-Ok-More.field-0-is
          (turned_here s.design (g.C.Cells.state c.loop.cells).design c.loop.invariant.some.design c.args.top c.loop.walk c.turn.new.self c.in-Ok-More.field-0 c.loop.invariant.walking c.in-Ok-More.ensures.turned);
      some = some_then s (g.C.Cells.state c.loop.cells) (g.C.Cells.state c.turn.new.cells) c.loop.invariant.some c.in-Ok-More.ensures.some;
    }
