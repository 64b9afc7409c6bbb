use Rattle.std.proofs.Common.{[], ◌∙◌, subst, sym}
use Rattle.std.proofs.lemmas.List.Elements.{recursion_from_All}
use Rattle.netlist_schema.specs.Hierarchy.{IsCell}
use Rattle.netlist_schema.proofs.Lists.{all_at}
use Rattle.uniquify_copies.proofs.SomeReads.{some_none, some_then}
use Rattle.uniquify_blocks.proofs.Blocks.{is_got}
use Rattle.uniquify_copies.specs.declared.spot.Step.{Step}
use Rattle.uniquify_copies.specs.Drafts.{IsDraft}
use Rattle.uniquify_blocks.specs.Along.{chain}
use Rattle.uniquify_blocks.specs.Plans.{all_copied}
use Rattle.uniquify_blocks.proofs.Chains.{drafted_more, drafted_none, whole_chain}
use Rattle.uniquify_blocks.proofs.path_draft.draft_blocks.Goals as goal

pub loop-place-init : goal.loop-place-init
loop-place-init g c = record {
  drafted = λ top. c.new-draft.ensures (g.C.Cells.state c.args.cells.now).design top;
  some = some_none (g.C.Cells.state c.args.cells.now);
}

pub copy-requires : goal.copy-requires
copy-requires g c =
    let d = (g.C.Cells.state c.args.cells.now).design in
    subst (λ e. IsCell e c.step_at-step.result.of) (sym c.loop-place.invariant.some.design)
    (all_at (λ (step : Step). IsCell d step.of) c.args.steps.now c.loop-place.place c.step_at-step.result (recursion_from_All (λ (step : Step). IsCell d step.of) c.args.steps.now c.requires) c.step_at-step.ensures)

pub returns-clause-drafted : goal.returns-clause-drafted
returns-clause-drafted g c = λ top.
    subst (λ steps. IsDraft (g.C.Cells.state c.args.cells.now).design top (all_copied (chain [] steps)) c.loop-place.draft) (whole_chain c.args.steps.now c.loop-place.place c.loop-place-test.false)
    (c.loop-place.invariant.drafted top)

pub returns-in-Ok-false-clause-drafted : goal.returns-in-Ok-false-clause-drafted
returns-in-Ok-false-clause-drafted g c = λ top.
    drafted_none (g.C.Cells.state c.args.cells.now).design (g.C.Cells.state c.loop-place.cells).design c.loop-place.invariant.some.design top c.args.steps.now c.loop-place.place c.step_at-step.result
    c.loop-place.draft c.copy.new.self c.len-above.result c.in-Ok-false.field-0 c.loop-place-test.true (is_got c.args.steps.now c.loop-place.place c.step_at-step.result c.step_at-step.ensures)
    (c.len-above.ensures ∙ c.loop-place.draft.spots.ok.0) (c.loop-place.invariant.drafted top) c.in-Ok-false.field-0-test c.in-Ok-false.ensures.copied

pub loop-place-preserved : goal.loop-place-preserved
loop-place-preserved g c = record {
  drafted = λ top.
      drafted_more (g.C.Cells.state c.args.cells.now).design (g.C.Cells.state c.loop-place.cells).design c.loop-place.invariant.some.design top c.args.steps.now c.loop-place.place c.step_at-step.result
      c.loop-place.draft c.copy.new.self c.len-above.result c.in-Ok-true.field-0 c.loop-place-test.true (is_got c.args.steps.now c.loop-place.place c.step_at-step.result c.step_at-step.ensures)
      (c.len-above.ensures ∙ c.loop-place.draft.spots.ok.0) (c.loop-place.invariant.drafted top) c.in-Ok-true.field-0-test c.in-Ok-true.ensures.copied;
  some = some_then (g.C.Cells.state c.args.cells.now) (g.C.Cells.state c.loop-place.cells) (g.C.Cells.state c.copy.new.cells) c.loop-place.invariant.some c.copy.ensures.some;
}
