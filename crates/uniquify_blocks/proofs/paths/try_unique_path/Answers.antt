use Rattle.std.proofs.Common.{length, sym, ap, ◌∙◌}
use Rattle.std.specs.Prelude.{◌==◌}
use Rattle.uniquify_blocks.proofs.PathDone.{code_can, code_empty, code_nowhere, code_result}
use Rattle.uniquify_blocks.proofs.paths.try_unique_path.Goals as goal

pub returns-in_default-2 : goal.returns-in_default-2
returns-in_default-2 g c =
    code_nowhere (g.C.Cells.state c.args.cells.now) (g.C.Cells.state c.blocks_along.new.cells) c.in-Some.top c.args.path.now c.in-Some.ensures.value c.in_ok-steps.ensures.reads
    (rw c.in_default-2.is at c.in_ok-steps.ensures.found)

pub returns-then-is_empty : goal.returns-then-is_empty
returns-then-is_empty g c =
    code_empty (g.C.Cells.state c.args.cells.now) (g.C.Cells.state c.blocks_along.new.cells) c.in-Some.top c.args.path.now c.in-Some.ensures.value c.in_ok-steps.ensures.reads
    (ap (λ l. length l == 0) (sym c.as_slice.ensures) ∙ sym c.is_empty.ensures ∙ c.if-is_empty.true)

pub put_plan-requires : goal.put_plan-requires
put_plan-requires g c =
    code_can (g.C.Cells.state c.args.cells.now) (g.C.Cells.state c.blocks_along.new.cells) c.in-Some.top c.args.path.now c.in-Some.ensures.value c.in_ok-steps.ensures.reads
    (rw c.in-Some-2.is at c.in_ok-steps.ensures.found).0 (ap (λ l. length l == 0) (sym c.as_slice.ensures) ∙ sym c.is_empty.ensures ∙ c.if-is_empty.false)
    (g.C.Cells.state c.plan_path.new.cells) c.in_ok-planned.ensures.reads c.in_ok-planned.planned c.in_ok-planned.ensures.planned c.in-Some.ensures.valid

pub returns : goal.returns
returns g c =
    code_result (g.C.Cells.state c.args.cells.now) (g.C.Cells.state c.blocks_along.new.cells) c.in-Some.top c.args.path.now c.in-Some.ensures.value c.in_ok-steps.ensures.reads
    (rw c.in-Some-2.is at c.in_ok-steps.ensures.found).0 (ap (λ l. length l == 0) (sym c.as_slice.ensures) ∙ sym c.is_empty.ensures ∙ c.if-is_empty.false)
    (g.C.Cells.state c.plan_path.new.cells) c.in_ok-planned.ensures.reads c.in_ok-planned.planned c.in_ok-planned.ensures.planned (g.C.Cells.state c.put_plan.new.cells) c.put_plan.result c.put_plan.ensures
