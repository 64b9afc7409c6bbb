use Rattle.std.proofs.Common.{arith, length, suc}
use Rattle.eco_reads.proofs.Below.{all_placed, few_walked, is_less, walk_begins, walk_ends, walk_goes_on, walked_some}
use Rattle.eco_reads.proofs.Reading.{read_nothing}
use Rattle.eco_reads.proofs.walk.reaches.Goals as goal

pub loop-next-init : goal.loop-next-init
loop-next-init g c = record {
  walked = walk_begins (g.C.Cells.state c.args.cells.now) c.args.from c.add_cell.new.order.items (rw c.new-order.ensures.items at c.in_ok-add_cell.ensures.grows) (read_nothing (g.C.Cells.state c.args.cells.now) (λ o. ⊥) (λ o never. never));
  listed = c.in_ok-add_cell.ensures.listed;
}

pub returns-clause-found : goal.returns-clause-found
returns-clause-found g c =
    let ends = walk_ends (g.C.Cells.state c.args.cells.now) (g.C.Cells.state c.loop-next.cells) c.args.from c.loop-next.order.items c.loop-next.next c.loop-next.invariant.walked (omega arith) in
    (λ yes. (ends.0 c.args.target).0 (c.has_cell.ensures.yes yes), λ at. c.has_cell.ensures.no ((ends.0 c.args.target).1 at))

pub returns-clause-reads : goal.returns-clause-reads
returns-clause-reads g c =
    (walk_ends (g.C.Cells.state c.args.cells.now) (g.C.Cells.state c.loop-next.cells) c.args.from c.loop-next.order.items c.loop-next.next c.loop-next.invariant.walked (omega arith)).1

pub loop-next-preserved : goal.loop-next-preserved
loop-next-preserved g c = record {
  walked = walk_goes_on (g.C.Cells.state c.args.cells.now) (g.C.Cells.state c.loop-next.cells) (g.C.Cells.state c.look.new.cells) c.args.from c.loop-next.order.items c.look.new.order.items c.loop-next.next c.index-id.result.now c.loop-next.invariant.walked (omega arith) c.index-id.ensures c.in-Ok.ensures.reads c.in-Ok.ensures.grows;
  listed = c.in-Ok.ensures.listed;
}

pub returns-in_default-clause-reads : goal.returns-in_default-clause-reads
returns-in_default-clause-reads g c = walked_some (g.C.Cells.state c.args.cells.now) (g.C.Cells.state c.loop-next.cells) (g.C.Cells.state c.look.new.cells) c.args.from c.loop-next.order.items c.loop-next.next c.loop-next.invariant.walked (rw c.in_default.is at c.look.ensures.reads)

pub loop-next-smaller : goal.loop-next-smaller
loop-next-smaller g c =
    let few = few_walked (g.C.Cells.state c.args.cells.now) (g.C.Cells.state c.loop-next.cells) c.args.from c.loop-next.order.items c.loop-next.next c.loop-next.invariant.walked c.loop-next.invariant.listed.once in
    is_less (suc (length (all_placed (g.C.Cells.state c.args.cells.now).design.libs))) c.loop-next.next (length c.loop-next.order.items) (omega arith) few
