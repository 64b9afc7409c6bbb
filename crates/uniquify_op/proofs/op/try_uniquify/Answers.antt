use Rattle.uniquify_op.proofs.UniquifyDone.{code_can, code_no_top, code_result}
use Rattle.uniquify_op.proofs.op.try_uniquify.Goals as goal

pub returns-in_default : goal.returns-in_default
returns-in_default g c = code_no_top (g.C.Cells.state c.args.cells.now) c.in_default.ensures.value

pub put_plan-requires : goal.put_plan-requires
put_plan-requires g c =
    code_can (g.C.Cells.state c.args.cells.now) (g.C.Cells.state c.read_below.new.cells) c.in-Some.top c.in-Some.ensures.value c.in_ok-read_below.ensures
    (g.C.Cells.state c.plan_blocks.new.cells) c.in_ok-planned.ensures.reads c.in_ok-planned.planned c.in_ok-planned.ensures.planned c.in-Some.ensures.valid

pub returns : goal.returns
returns g c =
    code_result (g.C.Cells.state c.args.cells.now) (g.C.Cells.state c.read_below.new.cells) c.in-Some.top c.in-Some.ensures.value c.in_ok-read_below.ensures
    (g.C.Cells.state c.plan_blocks.new.cells) c.in_ok-planned.ensures.reads c.in_ok-planned.planned c.in_ok-planned.ensures.planned (g.C.Cells.state c.put_plan.new.cells) c.put_plan.result c.put_plan.ensures
