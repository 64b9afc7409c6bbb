use Rattle.std.proofs.Common.{◌+◌, sym, ap, subst, ◌∙◌, ℕ, List, take, drop}
use Rattle.std.specs.Option.{option_copied}
use Rattle.edit_rules_spec.specs.Reading.{IsReached}
use Rattle.edit_rules_spec.specs.Paths.{resolves}
use Rattle.edit_cells.specs.State.{HasRead}
use Rattle.eco_reads.proofs.Going.{HasGone, gone_more, gone_no_further, one_further, split_here, take_all}
use Rattle.eco_reads.proofs.Paths.{resolves_end, resolves_stop}
use Rattle.eco_reads.proofs.walk.leads.Goals as goal

pub returns-in_default-clause-reads : goal.returns-in_default-clause-reads
returns-in_default-clause-reads g c =
    let stop = gone_no_further (g.C.Cells.state c.args.cells.now) (g.C.Cells.state c.loop-step.cells) (g.C.Cells.state c.contents-in-loop-step.follows.lender-at-none) c.args.top c.loop-step.at (take c.loop-step.step-index c.as_slice-step-items.result.now) (drop (c.loop-step.step-index + 1) c.as_slice-step-items.result.now) c.step-item.result (option_copied c.in_ok-contents.field-0) c.loop-step.invariant (rw c.in_ok-contents.was at c.contents-in-loop-step.follows.holds-at-none) c.in_ok-contents.ensures.found c.in_default.ensures in
    subst (λ (path : List (List ℕ)). HasRead (g.C.Cells.state c.args.cells.now) (g.C.Cells.state c.contents-in-loop-step.follows.lender-at-none) (IsReached (g.C.Cells.state c.args.cells.now).design c.args.top path)) (split_here c.as_slice-step-items.result.now c.loop-step.step-index c.step-item.result c.loop-step-test.true c.step-item.is ∙ c.as_slice-step-items.ensures) stop.0

pub returns-in_default-clause-found : goal.returns-in_default-clause-found
returns-in_default-clause-found g c =
    let stop = gone_no_further (g.C.Cells.state c.args.cells.now) (g.C.Cells.state c.loop-step.cells) (g.C.Cells.state c.contents-in-loop-step.follows.lender-at-none) c.args.top c.loop-step.at (take c.loop-step.step-index c.as_slice-step-items.result.now) (drop (c.loop-step.step-index + 1) c.as_slice-step-items.result.now) c.step-item.result (option_copied c.in_ok-contents.field-0) c.loop-step.invariant (rw c.in_ok-contents.was at c.contents-in-loop-step.follows.holds-at-none) c.in_ok-contents.ensures.found c.in_default.ensures in
    sym (resolves_stop (g.C.Cells.state c.args.cells.now).design c.args.top c.loop-step.at (take c.loop-step.step-index c.as_slice-step-items.result.now) (drop (c.loop-step.step-index + 1) c.as_slice-step-items.result.now) c.step-item.result c.loop-step.invariant.end stop.1) ∙ ap (resolves (g.C.Cells.state c.args.cells.now).design c.args.top) (split_here c.as_slice-step-items.result.now c.loop-step.step-index c.step-item.result c.loop-step-test.true c.step-item.is ∙ c.as_slice-step-items.ensures)

pub loop-step-preserved : goal.loop-step-preserved
loop-step-preserved g c =
    subst (λ (path : List (List ℕ)). HasGone (g.C.Cells.state c.args.cells.now) (g.C.Cells.state c.contents-in-loop-step-2.follows.lender-at-none) c.args.top c.in-Some.of path) (sym (one_further c.as_slice-step-items.result.now c.loop-step.step-index c.step-item.result c.loop-step-test.true c.step-item.is))
    (gone_more (g.C.Cells.state c.args.cells.now) (g.C.Cells.state c.loop-step.cells) (g.C.Cells.state c.contents-in-loop-step.follows.lender-at-none) (g.C.Cells.state c.contents-in-loop-step-2.follows.lender-at-none) c.args.top c.loop-step.at c.in-Some.of (take c.loop-step.step-index c.as_slice-step-items.result.now) c.step-item.result (option_copied c.in_ok-contents.field-0) c.loop-step.invariant (rw c.in_ok-contents.was at c.contents-in-loop-step.follows.holds-at-none) c.in_ok-contents.ensures.found c.in-Some.ensures (rw c.in_ok-_next.was at c.contents-in-loop-step-2.follows.holds-at-none))

pub returns-clause-found : goal.returns-clause-found
returns-clause-found g c =
    sym (resolves_end (g.C.Cells.state c.args.cells.now).design c.args.top c.loop-step.at (take c.loop-step.step-index c.as_slice-step-items.result.now) c.loop-step.invariant.end) ∙ ap (resolves (g.C.Cells.state c.args.cells.now).design c.args.top) (take_all c.as_slice-step-items.result.now c.loop-step.step-index c.loop-step-test.false ∙ c.as_slice-step-items.ensures)
