use Rattle.std.proofs.Common.{◌+◌, refl, sym, ap, subst, ◌∙◌, ℕ, List, take, drop}
use Rattle.edit_rules_spec.specs.Seen.{contents_at}
use Rattle.edit_rules_spec.specs.Reading.{IsReached}
use Rattle.edit_cells.specs.State.{HasRead}
use Rattle.eco_reads.proofs.Going.{HasGone, gone_more, gone_no_further, one_further, split_here}
use Rattle.eco_reads.proofs.NamedLemmas.{still_named}
use Rattle.ungroup_op.specs.Crossing.{crossing, is_inst}
use Rattle.ungroup_op.proofs.CrossingLemmas.{crossing_more, crossing_stop, place_here}
use Rattle.ungroup_op.proofs.notes.crossing.Goals as goal

pub returns-in_default-clause-reads : goal.returns-in_default-clause-reads
returns-in_default-clause-reads g c =
    let items = c.as_slice-step-items.result.now in
    let k = c.loop-place.place in
    let step = c.step-item.result in
    let stop = gone_no_further (g.C.Cells.state c.args.cells.now) (g.C.Cells.state c.loop-place.cells) (g.C.Cells.state c.next_cell.new.cells) c.args.crossed.now.top c.loop-place.at (take k items) (drop (k + 1) items) step (contents_at (g.C.Cells.state c.loop-place.cells).design c.loop-place.at) c.loop-place.invariant.gone c.in_ok-of.ensures.reads refl (sym c.in_default.is ∙ c.in_ok-of.ensures.found) in
    subst (λ (path : List (List ℕ)). HasRead (g.C.Cells.state c.args.cells.now) (g.C.Cells.state c.next_cell.new.cells) (IsReached (g.C.Cells.state c.args.cells.now).design c.args.crossed.now.top path)) (split_here items k step c.loop-place-test.true c.step-item.is ∙ c.as_slice-step-items.ensures) stop.0

pub returns-in_default-clause-found : goal.returns-in_default-clause-found
returns-in_default-clause-found g c =
    let items = c.as_slice-step-items.result.now in
    let k = c.loop-place.place in
    let step = c.step-item.result in
    let d = (g.C.Cells.state c.args.cells.now).design in
    let stop = gone_no_further (g.C.Cells.state c.args.cells.now) (g.C.Cells.state c.loop-place.cells) (g.C.Cells.state c.next_cell.new.cells) c.args.crossed.now.top c.loop-place.at (take k items) (drop (k + 1) items) step (contents_at (g.C.Cells.state c.loop-place.cells).design c.loop-place.at) c.loop-place.invariant.gone c.in_ok-of.ensures.reads refl (sym c.in_default.is ∙ c.in_ok-of.ensures.found) in
    place_here c.first_place-found.result c.loop-place.found (crossing d c.args.crossed.now.cell c.args.crossed.now.inst.now c.args.crossed.now.top (take k items)) c.is_inst.result (is_inst c.args.crossed.now.cell c.args.crossed.now.inst.now c.loop-place.at step) k items c.loop-place-test.true
    c.first_place-found.ensures c.loop-place.invariant.found c.is_inst.ensures
    ∙ sym (crossing_stop d c.args.crossed.now.cell c.args.crossed.now.inst.now c.args.crossed.now.top c.loop-place.at (take k items) (drop (k + 1) items) step c.loop-place.invariant.gone.end stop.1)
    ∙ ap (crossing d c.args.crossed.now.cell c.args.crossed.now.inst.now c.args.crossed.now.top) (split_here items k step c.loop-place-test.true c.step-item.is ∙ c.as_slice-step-items.ensures)

pub loop-place-preserved : goal.loop-place-preserved
loop-place-preserved g c =
    let items = c.as_slice-step-items.result.now in
    let k = c.loop-place.place in
    let step = c.step-item.result in
    let d = (g.C.Cells.state c.args.cells.now).design in
    let further = one_further items k step c.loop-place-test.true c.step-item.is in
    record {
      gone = subst (λ (path : List (List ℕ)). HasGone (g.C.Cells.state c.args.cells.now) (g.C.Cells.state c.contents-in-loop-place.follows.lender-at-none) c.args.crossed.now.top c.in-Some.of path) (sym further)
          (gone_more (g.C.Cells.state c.args.cells.now) (g.C.Cells.state c.loop-place.cells) (g.C.Cells.state c.next_cell.new.cells) (g.C.Cells.state c.contents-in-loop-place.follows.lender-at-none) c.args.crossed.now.top c.loop-place.at c.in-Some.of (take k items) step (contents_at (g.C.Cells.state c.loop-place.cells).design c.loop-place.at) c.loop-place.invariant.gone c.in_ok-of.ensures.reads refl (sym c.in-Some.is ∙ c.in_ok-of.ensures.found) (rw c.in_ok-_next.was at c.contents-in-loop-place.follows.holds-at-none));
      named = still_named (g.C.Cells.state c.loop-place.cells).design d c.next_cell.new.self c.loop-place.invariant.gone.read.design c.next_cell.ensures.named;
      found =
          place_here c.first_place-found.result c.loop-place.found (crossing d c.args.crossed.now.cell c.args.crossed.now.inst.now c.args.crossed.now.top (take k items)) c.is_inst.result (is_inst c.args.crossed.now.cell c.args.crossed.now.inst.now c.loop-place.at step) k items c.loop-place-test.true
          c.first_place-found.ensures c.loop-place.invariant.found c.is_inst.ensures
          ∙ sym (crossing_more d c.args.crossed.now.cell c.args.crossed.now.inst.now c.args.crossed.now.top c.loop-place.at (take k items) step c.loop-place.invariant.gone.end)
          ∙ ap (crossing d c.args.crossed.now.cell c.args.crossed.now.inst.now c.args.crossed.now.top) (sym further);
    }
