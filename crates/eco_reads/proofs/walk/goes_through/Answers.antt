use Rattle.std.proofs.Common.{◌||◌, Bool, ◌+◌, refl, sym, ap, subst, ◌∙◌, ℕ, List, take, drop}
use Rattle.edit_rules_spec.specs.Seen.{contents_at}
use Rattle.edit_rules_spec.specs.Reading.{IsReached}
use Rattle.edit_rules_spec.specs.Paths.{goes_through}
use Rattle.edit_cells.specs.State.{HasRead}
use Rattle.eco_reads.proofs.Going.{HasGone, gone_more, gone_no_further, one_further, split_here}
use Rattle.eco_reads.proofs.NamedLemmas.{still_named}
use Rattle.eco_reads.proofs.Paths.{here_through, through_more, through_stop}
use Rattle.eco_reads.proofs.walk.goes_through.Goals as goal

pub returns-in_default-clause-reads : goal.returns-in_default-clause-reads
returns-in_default-clause-reads g c =
    let stop = gone_no_further (g.C.Cells.state c.args.cells.now) (g.C.Cells.state c.loop-step.cells) (g.C.Cells.state c.next_cell.new.cells) c.args.crossed.now.top c.loop-step.at (take c.loop-step.step-index c.as_slice-step-items.result.now) (drop (c.loop-step.step-index + 1) c.as_slice-step-items.result.now) c.step-item.result (contents_at (g.C.Cells.state c.loop-step.cells).design c.loop-step.at) c.loop-step.invariant.gone c.in_ok-of.ensures.reads refl (sym c.in_default.is ∙ c.in_ok-of.ensures.found) in
    subst (λ (path : List (List ℕ)). HasRead (g.C.Cells.state c.args.cells.now) (g.C.Cells.state c.next_cell.new.cells) (IsReached (g.C.Cells.state c.args.cells.now).design c.args.crossed.now.top path)) (split_here c.as_slice-step-items.result.now c.loop-step.step-index c.step-item.result c.loop-step-test.true c.step-item.is ∙ c.as_slice-step-items.ensures) stop.0

pub returns-in_default-clause-found : goal.returns-in_default-clause-found
returns-in_default-clause-found g c =
    let stop = gone_no_further (g.C.Cells.state c.args.cells.now) (g.C.Cells.state c.loop-step.cells) (g.C.Cells.state c.next_cell.new.cells) c.args.crossed.now.top c.loop-step.at (take c.loop-step.step-index c.as_slice-step-items.result.now) (drop (c.loop-step.step-index + 1) c.as_slice-step-items.result.now) c.step-item.result (contents_at (g.C.Cells.state c.loop-step.cells).design c.loop-step.at) c.loop-step.invariant.gone c.in_ok-of.ensures.reads refl (sym c.in_default.is ∙ c.in_ok-of.ensures.found) in
    c.passes-found.ensures ∙ ap (λ (b : Bool). b || here_through c.args.crossed.now.cell c.args.crossed.now.inst.now c.loop-step.at c.step-item.result) c.loop-step.invariant.found ∙ sym (through_stop (g.C.Cells.state c.args.cells.now).design c.args.crossed.now.cell c.args.crossed.now.inst.now c.args.crossed.now.top c.loop-step.at (take c.loop-step.step-index c.as_slice-step-items.result.now) (drop (c.loop-step.step-index + 1) c.as_slice-step-items.result.now) c.step-item.result c.loop-step.invariant.gone.end stop.1) ∙ ap (goes_through (g.C.Cells.state c.args.cells.now).design c.args.crossed.now.cell c.args.crossed.now.inst.now c.args.crossed.now.top) (split_here c.as_slice-step-items.result.now c.loop-step.step-index c.step-item.result c.loop-step-test.true c.step-item.is ∙ c.as_slice-step-items.ensures)

pub loop-step-preserved : goal.loop-step-preserved
loop-step-preserved g c = record {
  gone = subst (λ (path : List (List ℕ)). HasGone (g.C.Cells.state c.args.cells.now) (g.C.Cells.state c.contents-in-loop-step.follows.lender-at-none) c.args.crossed.now.top c.in-Some.of path) (sym (one_further c.as_slice-step-items.result.now c.loop-step.step-index c.step-item.result c.loop-step-test.true c.step-item.is))
      (gone_more (g.C.Cells.state c.args.cells.now) (g.C.Cells.state c.loop-step.cells) (g.C.Cells.state c.next_cell.new.cells) (g.C.Cells.state c.contents-in-loop-step.follows.lender-at-none) c.args.crossed.now.top c.loop-step.at c.in-Some.of (take c.loop-step.step-index c.as_slice-step-items.result.now) c.step-item.result (contents_at (g.C.Cells.state c.loop-step.cells).design c.loop-step.at) c.loop-step.invariant.gone c.in_ok-of.ensures.reads refl (sym c.in-Some.is ∙ c.in_ok-of.ensures.found) (rw c.in_ok-_next.was at c.contents-in-loop-step.follows.holds-at-none));
  named = still_named (g.C.Cells.state c.loop-step.cells).design (g.C.Cells.state c.args.cells.now).design c.next_cell.new.self c.loop-step.invariant.gone.read.design c.next_cell.ensures.named;
  found = c.passes-found.ensures ∙ ap (λ (b : Bool). b || here_through c.args.crossed.now.cell c.args.crossed.now.inst.now c.loop-step.at c.step-item.result) c.loop-step.invariant.found ∙ sym (through_more (g.C.Cells.state c.args.cells.now).design c.args.crossed.now.cell c.args.crossed.now.inst.now c.args.crossed.now.top c.loop-step.at (take c.loop-step.step-index c.as_slice-step-items.result.now) c.step-item.result c.loop-step.invariant.gone.end) ∙ ap (goes_through (g.C.Cells.state c.args.cells.now).design c.args.crossed.now.cell c.args.crossed.now.inst.now c.args.crossed.now.top) (sym (one_further c.as_slice-step-items.result.now c.loop-step.step-index c.step-item.result c.loop-step-test.true c.step-item.is));
}
