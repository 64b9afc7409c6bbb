use Rattle.std.proofs.Common.{arith, length}
use Rattle.eco_reads.proofs.Below.{all_placed, few_below, is_less}
use Rattle.uniquify_blocks.proofs.Entering.{enter_begins, enter_ends, enter_goes_on, entered_some}
use Rattle.uniquify_blocks.proofs.below.read_below.Goals as goal

pub loop-next-init : goal.loop-next-init
loop-next-init g c = record {
  entered = enter_begins (g.C.Cells.state c.args.cells.now) (g.C.Cells.state c.look.new.cells) c.args.top c.look.new.order.items (rw c.new-order.ensures.items at c.in_ok-look.ensures.grows) c.in_ok-look.ensures.reads;
  listed = c.in_ok-look.ensures.listed;
}

pub returns : goal.returns
returns g c =
    enter_ends (g.C.Cells.state c.args.cells.now) (g.C.Cells.state c.loop-next.cells) c.args.top c.loop-next.order.items c.loop-next.next c.loop-next.invariant.entered (omega arith)

pub loop-next-preserved : goal.loop-next-preserved
loop-next-preserved g c = record {
  entered = enter_goes_on (g.C.Cells.state c.args.cells.now) (g.C.Cells.state c.loop-next.cells) (g.C.Cells.state c.enter.new.cells) c.args.top c.loop-next.order.items c.enter.new.order.items c.loop-next.next c.index-id.result.now c.loop-next.invariant.entered (omega arith) c.index-id.ensures c.in-Ok.ensures.reads c.in-Ok.ensures.grows;
  listed = c.in-Ok.ensures.listed;
}

pub returns-in_default : goal.returns-in_default
returns-in_default g c = entered_some (g.C.Cells.state c.args.cells.now) (g.C.Cells.state c.loop-next.cells) (g.C.Cells.state c.enter.new.cells) c.args.top c.loop-next.order.items c.loop-next.next c.loop-next.invariant.entered (rw c.in_default.is at c.enter.ensures.reads)

pub loop-next-smaller : goal.loop-next-smaller
loop-next-smaller g c =
    let few = few_below (g.C.Cells.state c.args.cells.now).design c.args.top c.loop-next.order.items c.loop-next.invariant.listed.once c.loop-next.invariant.entered.below in
    is_less (length (all_placed (g.C.Cells.state c.args.cells.now).design.libs)) c.loop-next.next (length c.loop-next.order.items) (omega arith) few
