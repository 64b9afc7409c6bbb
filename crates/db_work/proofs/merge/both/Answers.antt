use Rattle.std.proofs.Common.{rules, ◌∙◌}
use Rattle.std.proofs.lemmas.Result.{IfOk-weaker}
use Rattle.netlist_schema.specs.Design.{cell_at}
use Rattle.db_work.proofs.Outsides.{joined_same}
use Rattle.db_work.proofs.merge.both.Goals as goal

pub returns-then-has_same_outside : goal.returns-then-has_same_outside
returns-then-has_same_outside c =
    IfOk-weaker c.share.result _ _
    (λ made is. is ∙ joined_same c.in-Some.a.now c.in-Some-body.b.now (cell_at c.args.outer.now.design c.args.id) (cell_at c.args.inner.now.design c.args.id) c.in-Some.ensures c.in-Some-body.ensures (c.has_same_outside.ensures (search rules)))
    c.share.ensures
