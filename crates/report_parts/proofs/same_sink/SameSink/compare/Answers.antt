use Rattle.report_parts.proofs.Sinks.{compared_other, compared_same, other_kept}
use Rattle.report_parts.proofs.same_sink.SameSink.compare.Goals as goal

pub returns-then-count-piece-clause-same : goal.returns-then-count-piece-clause-same
returns-then-count-piece-clause-same c =
    compared_same c.self.inside.text.now c.args.piece.now c.self.inside.same c.common-count.result c.self.inside.faults c.common-count.ensures c.args.self.now c.self.inside.other c.is_some.result c.self.view_is c.is_some.ensures
    c.if-is_some.false c.if-count-piece.true

pub invariant_of-self-2 : goal.invariant_of-self-2
invariant_of-self-2 c =
    other_kept c.self.inside.text.now c.args.piece.now c.self.inside.same c.common-count.result c.self.inside.faults c.common-count.ensures c.self.invariant.0 c.if-count-piece.false

pub returns-clause-same : goal.returns-clause-same
returns-clause-same c =
    compared_other c.self.inside.text.now c.args.piece.now c.self.inside.same c.common-count.result c.self.inside.faults c.common-count.ensures c.args.self.now c.self.inside.other c.is_some.result c.saturating_add-self-inside-2.result
    c.self.view_is c.is_some.ensures c.if-is_some.false c.if-count-piece.false c.saturating_add-self-inside-2.ensures
