use Rattle.std.proofs.Common.{None, Some, subst, sym}
use Rattle.uniquify_copies.proofs.SomeReads.{some_then}
use Rattle.eco_reads.proofs.Reading.{read_some}
use Rattle.uniquify_blocks.specs.Along.{ArePathBlocks}
use Rattle.uniquify_blocks.proofs.Walking.{HasWalked, Read, first_left, left_none, walk_done, walk_on, walk_starts, walk_stops}
use Rattle.uniquify_blocks.proofs.along.blocks_along.Goals as goal

pub loop-name-init : goal.loop-name-init
loop-name-init g c =
    let items = c.as_slice-name-items.result.now in
    subst (λ blocks. HasWalked (g.C.Cells.state c.args.cells.now) (g.C.Cells.state c.read_cell.new.cells) c.args.top c.args.top items items blocks) (sym c.new-blocks.ensures.items)
    (walk_starts (g.C.Cells.state c.args.cells.now) (g.C.Cells.state c.read_cell.new.cells) c.args.top items c.in_ok-_top.ensures.reads)

pub returns-in_default-clause-reads : goal.returns-in_default-clause-reads
returns-in_default-clause-reads g c =
    some_then (g.C.Cells.state c.args.cells.now) (g.C.Cells.state c.loop-name.cells) (g.C.Cells.state c.go.new.cells) (read_some (g.C.Cells.state c.args.cells.now) (g.C.Cells.state c.loop-name.cells) _ c.loop-name.invariant.read)
    (rw c.in_default.is at c.go.ensures.some)

pub returns-in_default-next-clause-found : goal.returns-in_default-next-clause-found
returns-in_default-next-clause-found g c =
    let s = g.C.Cells.state c.args.cells.now in
    let items = c.as_slice-name-items.result.now in
    let stop = walk_stops s (g.C.Cells.state c.loop-name.cells) (g.C.Cells.state c.go.new.cells) c.args.top c.loop-name.at items _ c.name-item.result c.loop-name.blocks.items c.go.new.blocks.items
    (subst (λ l. HasWalked s (g.C.Cells.state c.loop-name.cells) c.args.top c.loop-name.at items l c.loop-name.blocks.items) (first_left items c.loop-name.name-index c.name-item.result c.loop-name-test.true c.name-item.is) c.loop-name.invariant)
    (rw c.in_default-next.is at c.in-Ok.ensures.gone) in
    subst (λ path. ArePathBlocks s.design c.args.top path None) c.as_slice-name-items.ensures stop.0

pub returns-in_default-next-clause-reads : goal.returns-in_default-next-clause-reads
returns-in_default-next-clause-reads g c =
    let s = g.C.Cells.state c.args.cells.now in
    let items = c.as_slice-name-items.result.now in
    let stop = walk_stops s (g.C.Cells.state c.loop-name.cells) (g.C.Cells.state c.go.new.cells) c.args.top c.loop-name.at items _ c.name-item.result c.loop-name.blocks.items c.go.new.blocks.items
    (subst (λ l. HasWalked s (g.C.Cells.state c.loop-name.cells) c.args.top c.loop-name.at items l c.loop-name.blocks.items) (first_left items c.loop-name.name-index c.name-item.result c.loop-name-test.true c.name-item.is) c.loop-name.invariant)
    (rw c.in_default-next.is at c.in-Ok.ensures.gone) in
    subst (λ path. Read s (g.C.Cells.state c.go.new.cells) c.args.top path) c.as_slice-name-items.ensures stop.1

pub loop-name-preserved : goal.loop-name-preserved
loop-name-preserved g c =
    walk_on (g.C.Cells.state c.args.cells.now) (g.C.Cells.state c.loop-name.cells) (g.C.Cells.state c.go.new.cells) c.args.top c.loop-name.at c.in-Some.of c.as_slice-name-items.result.now c.loop-name.name-index
    c.name-item.result c.loop-name.blocks.items c.go.new.blocks.items c.loop-name-test.true c.name-item.is c.loop-name.invariant (rw c.in-Some.is at c.in-Ok.ensures.gone)

pub returns-clause-found : goal.returns-clause-found
returns-clause-found g c =
    let s = g.C.Cells.state c.args.cells.now in
    let u = g.C.Cells.state c.loop-name.cells in
    let items = c.as_slice-name-items.result.now in
    let done = walk_done s u c.args.top c.loop-name.at items c.loop-name.blocks.items
    (subst (λ l. HasWalked s u c.args.top c.loop-name.at items l c.loop-name.blocks.items) (left_none items c.loop-name.name-index c.loop-name-test.false) c.loop-name.invariant) in
    subst (λ path. ArePathBlocks s.design c.args.top path (Some c.loop-name.blocks.items)) c.as_slice-name-items.ensures done.0

pub returns-clause-reads : goal.returns-clause-reads
returns-clause-reads g c =
    let s = g.C.Cells.state c.args.cells.now in
    let u = g.C.Cells.state c.loop-name.cells in
    let items = c.as_slice-name-items.result.now in
    let done = walk_done s u c.args.top c.loop-name.at items c.loop-name.blocks.items
    (subst (λ l. HasWalked s u c.args.top c.loop-name.at items l c.loop-name.blocks.items) (left_none items c.loop-name.name-index c.loop-name-test.false) c.loop-name.invariant) in
    subst (λ path. Read s u c.args.top path) c.as_slice-name-items.ensures done.1
