use Rattle.std.proofs.Common.{sym, ◌∙◌}
use Rattle.std.specs.List.{list_any}
use Rattle.edit_rules_spec.specs.Find.{is_same}
use Rattle.eco_plans.proofs.Twice.{twice_here, twice_later}
use Rattle.eco_plans.proofs.cell_plans.has_twice.Goals as goal

pub returns-then-is_among : goal.returns-then-is_among
returns-then-is_among c =
    sym (c.loop-i.invariant ∙ twice_here c.args.ports.now c.loop-i.i c.index-ports-i.result c.loop-i-test.true
    ((λ k. list_any (λ port. is_same (sym c.index-ports-i.is k).name port.name) (sym c.later-others.ensures k)) ∙ sym c.if-is_among.ensures))

pub loop-i-preserved : goal.loop-i-preserved
loop-i-preserved c =
    c.loop-i.invariant ∙ twice_later c.args.ports.now c.loop-i.i c.index-ports-i.result c.loop-i-test.true
    ((λ k. list_any (λ port. is_same (sym c.index-ports-i.is k).name port.name) (sym c.later-others.ensures k)) ∙ sym c.if-is_among.ensures)
